mod Failing
mod LeftAnswers
mod Named
mod Notes
mod SaidKinds
mod Seen
