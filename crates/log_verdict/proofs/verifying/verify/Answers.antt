use Rattle.std.proofs.Common.{sym, ◌∙◌, subst, arith, rules}
use Rattle.std.proofs.lemmas.Result.{IfOk-weaker}
use Rattle.std.specs.Io.KnownBytes.{IsAtEnd}
use Rattle.context_intake.specs.Contexts.{IsOfContext, RefusesNothing}
use Rattle.context_intake.specs.Taking.{IsReadFor}
use Rattle.context_intake.proofs.ReadingFacts.{reads_on, rose_from, taken_upto}
use Rattle.log_verdict.specs.Taking.{IsReadToVerify}
use Rattle.log_verdict.specs.Verifying.{IsVerifiedFrom}
use Rattle.log_verdict.proofs.VerifyingFacts.{context_nothing, placement_unread, read_last, read_to_verify, refused_told, verified_told, whole_from}
use Rattle.log_verdict.proofs.verifying.verify.Goals as goal

pub returns-in_err-found-clause-reads : goal.returns-in_err-found-clause-reads
returns-in_err-found-clause-reads g c = placement_unread c.args.placement.now c.requires.not_setup c.requires.not_log (reads_on c.read_context.result _ (search rules) c.read_context.ensures.reads)

pub returns-clause-verified : goal.returns-clause-verified
returns-clause-verified g c =
    IfOk-weaker c.verified_of.result _ _ (λ verified from s l p ts tl tp.
    verified_told s l p c.in_ok-found.found verified (c.in_ok-found.ensures.told s l ts tl)
    (subst (λ t. IsVerifiedFrom t p verified) (c.deref.ensures ∙ c.new-told.ensures) (from p (c.in_ok-found.ensures.reads.others c.args.placement.now c.requires.not_setup c.requires.not_log ∙ tp)))) c.verified_of.ensures.verified

pub returns-clause-whole : goal.returns-clause-whole
returns-clause-whole g c =
    let left = g.D.Desk.left in
    let middle = left c.read_context.new.desk in
    let now = left c.verified_of.new.desk in
    IfOk-weaker c.verified_of.result _ (λ verified. IsReadToVerify verified (now c.args.setup.now) (now c.args.log.now) (left c.args.desk.now c.args.placement.now) (now c.args.placement.now)) (λ verified read.
    read_to_verify verified (middle c.args.setup.now) (middle c.args.log.now) (middle c.args.placement.now) (now c.args.placement.now)
    (now c.args.setup.now) (now c.args.log.now) (left c.args.desk.now c.args.placement.now)
    (c.verified_of.ensures.others c.args.setup.now (λ e. c.requires.not_setup (sym e))) (c.verified_of.ensures.others c.args.log.now (λ e. c.requires.not_log (sym e)))
    (c.in_ok-found.ensures.reads.others c.args.placement.now c.requires.not_setup c.requires.not_log)
    (read (middle c.args.setup.now) (middle c.args.log.now) (subst (λ t. IsReadFor t (middle c.args.setup.now) (middle c.args.log.now)) (sym (c.deref.ensures ∙ c.new-told.ensures)) c.in_ok-found.ensures.whole)))
    c.verified_of.ensures.whole

pub returns-clause-reads : goal.returns-clause-reads
returns-clause-reads g c =
    let reads = c.read_context.ensures.reads in
    let behind = c.verified_of.ensures in
    let untouched = reads.others c.args.placement.now c.requires.not_setup c.requires.not_log in
    let same_setup = behind.others c.args.setup.now (λ e. c.requires.not_setup (sym e)) in
    let same_log = behind.others c.args.log.now (λ e. c.requires.not_log (sym e)) in
    let same_told = c.deref.ensures ∙ c.new-told.ensures in
    record {
      fault = λ is. rose_from _ _ _ reads.counted (behind.faults.1 is).1;
      counted = (let first = reads.counted in let second = behind.faults.0 in omega (arith, first, second));
      taken = taken_upto c.args.setup.now c.args.log.now (g.D.Desk.left c.args.desk.now) (g.D.Desk.left c.read_context.new.desk) (g.D.Desk.left c.verified_of.new.desk) (RefusesNothing c.read_context.result) _ same_setup same_log
          (λ is. context_nothing c.read_context.result c.in_ok-found.found c.in_ok-found.was (subst IsOfContext same_told (behind.faults.1 is).0)) reads.taken;
      placement_taken = whole_from _ _ _ _ _ _ untouched (λ is. is) behind.taken;
      placement_left = λ s l refusal ts tl refused. behind.left (λ context. refused_told s l refusal c.in_ok-found.found refused (c.in_ok-found.ensures.told s l ts tl) (subst IsOfContext same_told context)) ∙ untouched;
      placement_after = read_last c.in_ok-found.found (g.D.Desk.left c.verified_of.new.desk c.args.setup.now) (g.D.Desk.left c.verified_of.new.desk c.args.log.now) (g.D.Desk.left c.args.desk.now c.args.placement.now) (g.D.Desk.left c.verified_of.new.desk c.args.placement.now)
          (λ none. behind.left (λ context. none (subst IsOfContext same_told context)) ∙ untouched)
          (λ known is. let ends = subst (λ t. IsReadFor t (g.D.Desk.left c.read_context.new.desk c.args.setup.now) (g.D.Desk.left c.read_context.new.desk c.args.log.now)) is c.in_ok-found.ensures.whole in (subst IsAtEnd (sym same_setup) ends.0, subst IsAtEnd (sym same_log) ends.1));
      others = λ other not_setup not_log not_placement. behind.others other not_placement ∙ reads.others other not_setup not_log;
    }
