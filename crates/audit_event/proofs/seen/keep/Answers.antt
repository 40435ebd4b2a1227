use Rattle.std.proofs.Common.{◌≡◌, ◌∷◌, [], ◌++◌, map, Bool, true, false, not, get_or, Some, slice_get, if◌then◌else◌, refl, sym, ap, subst, ◌∙◌, rules}
use Rattle.std.specs.List.{list_any}
use Rattle.audit_event.specs.Keeping.{identity_of}
use Rattle.audit_event.specs.contracts.seen.IdentityPartialEq.TheImpl as same
use Rattle.audit_event.specs.declared.seen.Identity.{Identity}
use Rattle.audit_event.proofs.KeepingLemmas.{none_of_stage, judged, stands_at}
use Rattle.audit_event.proofs.seen.keep.Goals as goal

not_true : (b : Bool) → not b ≡ true → b ≡ false
not_true true is = sym is
not_true false is = refl

tells : (x y : Identity) → x ≡ y → same.eq-value.it x y ≡ true
tells x y is = search rules

pub returns-then-is_fresh-clause-keeps : goal.returns-then-is_fresh-clause-keeps
returns-then-is_fresh-clause-keeps c =
    let kept = c.args.kept.now.items in
    let event = c.args.event in
    let identity : Identity = record { audit_id = c.in_ok-audit_id.audit_id; stage = event.stage } in
    let is : identity ≡ identity_of event = (λ i. record { audit_id = c.in_ok-audit_id.ensures.cases i; stage = event.stage }) in
    let absent : list_any (same.eq-value.it identity) c.args.identities.now.keys ≡ false = not_true _ (sym c.in_ok-at.ensures.added ∙ c.if-is_fresh.true) in
    let none : list_any (same.eq-value.it (identity_of event)) (map identity_of kept) ≡ false = rw (is, c.requires) at absent in
    (none_of_stage same.eq-value.it tells kept event none, c.append.ensures ∙ ap (λ l. l ++ event ∷ []) c.reserve.ensures.items)

not_false : (b : Bool) → not b ≡ false → b ≡ true
not_false true is = refl
not_false false is = sym is

means : (x y : Identity) → same.eq-value.it x y ≡ true → x ≡ y
means x y is = search rules

pub returns-clause-keeps : goal.returns-clause-keeps
returns-clause-keeps c =
    let kept = c.args.kept.now.items in
    let keys = c.args.identities.now.keys in
    let event = c.args.event in
    let at = c.in_ok-at.at in
    let identity : Identity = record { audit_id = c.in_ok-audit_id.audit_id; stage = event.stage } in
    let is : identity ≡ identity_of event = (λ i. record { audit_id = c.in_ok-audit_id.ensures.cases i; stage = event.stage }) in
    let present : list_any (same.eq-value.it identity) keys ≡ true = not_false _ (sym c.in_ok-at.ensures.added ∙ c.if-is_fresh.false) in
    let stayed : c.insert_full.new.self.keys ≡ keys = c.in_ok-at.ensures.keys ∙ ap (λ b. if b then keys else keys ++ identity ∷ []) present in
    let stored = c.in_ok-at.ensures.stored in
    let stands = stands_at kept at stored.0 (subst (λ ks. slice_get ks at ≡ Some stored.0) (stayed ∙ c.requires) stored.1) in
    let found : c.index.result.now ≡ get_or kept at c.index.result.now = search (rules, c.index.ensures) in
    let one : identity_of c.index.result.now ≡ identity_of event = ap identity_of found ∙ stands.1 c.index.result.now ∙ sym (means identity stored.0 stored.2) ∙ is in
    judged kept event c.index.result.now at c.judge.result c.reserve.new.self.items stands.0 found one c.judge.ensures c.reserve.ensures.items
