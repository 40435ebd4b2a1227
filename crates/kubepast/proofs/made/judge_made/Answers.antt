use Rattle.std.proofs.Common.{List, ℕ, codes, ◌∙◌, subst, refl}
use Rattle.edge_io.specs.Files.{left_of}
use Rattle.case_maker.specs.Case.{setup_text}
use Rattle.log_verdict.specs.Judging.{IsJudged}
use Rattle.kubepast.proofs.MadeFacts.{bytes_named}
use Rattle.kubepast.proofs.made.judge_made.Goals as goal

pub returns-in-Ok : goal.returns-in-Ok
returns-in-Ok g c =
    let named = bytes_named c.in_ok-files_of.field-0 _ c.in_ok-desk.desk c.in_ok-setup.field-0.setup c.in_ok-setup.field-0.log c.in_ok-files_of.ensures c.in_ok-desk.ensures in
    let setup = named.0 ∙ c.in_ok-setup.ensures.setup in
    let log = named.1 ∙ c.in_ok-setup.ensures.log in
    let judged = c.in-Ok.ensures.judged (left_of c.in_ok-desk.desk.files (codes "setup")) (left_of c.in_ok-desk.desk.files (codes "log")) refl refl in
    let of_setup = subst (λ (bytes : List ℕ). IsJudged bytes (left_of c.in_ok-desk.desk.files (codes "log")) c.in-Ok.judged) setup judged in
    subst (λ (bytes : List ℕ). IsJudged setup_text bytes c.in-Ok.judged) log of_setup
