-- A script (`Session`) as its specification sees it (`phase_of`): its setup goes on, or its machine runs.
use Rattle.bsi_text.specs.declared.session.Session.{Session}
use Rattle.bsi_text.specs.declared.session.Session.TheVariants as session
use Rattle.bsi_input.specs.Scripts.{Phase, Declaring, Running}

abbrev pub phase_of : Session → Phase
phase_of (session.Declaring setup) = Declaring setup
phase_of (session.Running shown) = Running shown
