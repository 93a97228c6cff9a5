use Rattle.bsi_components.proofs.PlaceCounts.{count_few, count_enough}
use Rattle.bsi_components.proofs.places.place_count.Goals as goal

pub returns-clause-few : goal.returns-clause-few
returns-clause-few c = count_few c.args.base c.requires

pub returns-clause-enough : goal.returns-clause-enough
returns-clause-enough c = count_enough c.args.base c.requires
