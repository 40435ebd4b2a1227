use Rattle.std.proofs.Common.{◌≡◌, rules, tests}
use Rattle.std.proofs.lemmas.Iterator.{YieldsList-from_slice, cases_from_any}
use Rattle.base_types.specs.declared.kubernetes.key.ObjectKey.{ObjectKey}
use Rattle.setup_file.specs.declared.setup.Tracked.{Tracked}
use Rattle.history_query.proofs.TellingFacts.{any_tells}
use Rattle.history_query.proofs.telling.is_tracked.Goals as goal

-- the resource is the key's
abbrev IsOf : ObjectKey → Tracked → Type 0
IsOf key tracked = (tracked.group ≡ key.group) × (tracked.resource ≡ key.resource)

pub returns : goal.returns
returns c =
    any_tells (IsOf c.args.key.now) c.any.result c.args.setup.now.resources
    (cases_from_any _ _ _ (IsOf c.args.key.now) (λ x. IsOf c.args.key.now x → ⊥) c.any.ensures.ran (YieldsList-from_slice c.args.setup.now.resources (cc)) (λ x q k. search (rules, tests)) (λ x q k. search (rules, tests)))
