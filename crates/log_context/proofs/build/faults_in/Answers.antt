use Rattle.std.proofs.Common.{List, subst}
use Rattle.std.proofs.lemmas.Result.{IfOk-weaker}
use Rattle.past_building.specs.declared.maker.JudgedWrite.{JudgedWrite}
use Rattle.log_context.specs.Makings.{AreMakingsOf}
use Rattle.log_context.proofs.build.faults_in.Goals as goal

pub returns : goal.returns
returns c = IfOk-weaker c.faults_of.result _ _
    (λ faults is h readable start body past codes events. is h readable start body past
    (codes c.in_ok-makings.makings (subst (λ (l : List JudgedWrite). AreMakingsOf l c.in_ok-makings.makings) c.deref.ensures.value c.in_ok-makings.ensures)) events)
    c.faults_of.ensures
