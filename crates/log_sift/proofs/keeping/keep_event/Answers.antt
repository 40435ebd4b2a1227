use Rattle.std.proofs.Common.{◌≡◌, ◌∙◌, Some, None, true, ap, rules, sym}
use Rattle.std.specs.Map.{lookup}
use Rattle.std.specs.Option.{option_copied}
use Rattle.indexmap.proofs.CallerLemmas.{insert_entry-new}
use Rattle.log_sift.specs.contracts.recalling.EventIdentityPartialEq.TheImpl as same
use Rattle.log_sift.specs.declared.recalling.EventIdentity.{EventIdentity}
use Rattle.log_sift.specs.Recalling.{identity_of}
use Rattle.log_sift.proofs.KeepingFacts.{compared, kept_new}
use Rattle.log_sift.proofs.keeping.keep_event.Goals as goal

tells : (x y : EventIdentity) → x ≡ y → same.eq-value.it x y ≡ true
tells x y is = search rules

means : (x y : EventIdentity) → same.eq-value.it x y ≡ true → x ≡ y
means x y is = search rules

pub returns-in-Some : goal.returns-in-Some
returns-in-Some c =
    let entries = c.args.kept.now.entries in
    let event = c.args.event in
    let earlier = c.in-Some.earlier.now in
    let identity : EventIdentity = record { audit_id = c.in_ok-audit_id.audit_id; stage = event.stage } in
    let is : identity ≡ identity_of event = (λ i. record { audit_id = c.in_ok-audit_id.ensures.cases i; stage = event.stage }) in
    let there : lookup (same.eq-value.it identity) entries ≡ Some earlier = sym c.kept_of.ensures ∙ ap option_copied c.in-Some.is in
    compared same.eq-value.it means entries identity earlier event c.compare.result there is c.compare.ensures

pub returns-in_ok-insert-in-None : goal.returns-in_ok-insert-in-None
returns-in_ok-insert-in-None c =
    let entries = c.args.kept.now.entries in
    let event = c.args.event in
    let identity : EventIdentity = record { audit_id = c.in_ok-audit_id.audit_id; stage = event.stage } in
    let is : identity ≡ identity_of event = (λ i. record { audit_id = c.in_ok-audit_id.ensures.cases i; stage = event.stage }) in
    let none : lookup (same.eq-value.it identity) entries ≡ None = sym c.kept_of.ensures ∙ ap option_copied c.in-None.is in
    kept_new same.eq-value.it tells entries c.insert.new.self.entries identity event none is
    (c.in_ok-insert-in-None.ensures.entries ∙ insert_entry-new same.eq-value.it c.args.kept.now identity event none)
