use Rattle.bsi_pruning.proofs.Alike.{lines-alike}
use Rattle.bsi_pruning.proofs.laws.named_columns_answer_each_line.Goals as goal

pub returns : goal.returns
returns g c = λ grammar t chosen fields line fitting there are.
    lines-alike grammar (g.V.Vocabulary.words c.args.vocabulary.now) (g.V.Notation.number_texts c.args.vocabulary.now) t.schema t.rows chosen fields line there are fitting
