-- The rules of a role, read one after another.
use Rattle.std.proofs.Common.{◌≡◌, ℕ, ◌+◌, ◌<◌, List, [], ◌∷◌, ◌++◌, length, get_or, drop, Option, Some, None, refl, sym, ap, ◌∙◌, suc, add-one, drop-cons, append_assoc}
use Rattle.std.specs.Prelude.{option_map}
use Rattle.base_types.specs.Meaning.{Meaning}
use Rattle.base_types.specs.Texts.{◌>>=◌}
use Rattle.rbac_rules.specs.declared.role.PolicyRule.{PolicyRule}
use Rattle.rbac_rules.specs.Forms.{rule_of, rules_in}

one_more : (rules : List PolicyRule) (rule : PolicyRule) (rest : Option (List PolicyRule))
    → option_map (λ r. rules ++ r) (rest >>= λ r. Some (rule ∷ r)) ≡ option_map (λ r. (rules ++ rule ∷ []) ++ r) rest
one_more rules rule None = refl
one_more rules rule (Some rest) = ap Some (sym (append_assoc rules (rule ∷ []) rest))

-- one more rule in its form
pub rules_step : (trees : List Meaning) (i : ℕ) (rules : List PolicyRule) (rule : PolicyRule) (tree : Meaning) → i < length trees → tree ≡ get_or trees i tree → rule_of tree ≡ Some rule
    → option_map (λ r. rules ++ r) (rules_in (drop i trees)) ≡ option_map (λ r. (rules ++ rule ∷ []) ++ r) (rules_in (drop (i + 1) trees))
rules_step trees i rules rule tree within at read =
    let cut : drop i trees ≡ tree ∷ drop (i + 1) trees = rw (add-one, drop-cons trees i tree) (ap (λ x. x ∷ drop (suc i) trees) (sym at)) in
    ap (λ l. option_map (λ r. rules ++ r) (rules_in l)) cut
    ∙ ap (λ found. option_map (λ r. rules ++ r) (found >>= λ first. rules_in (drop (i + 1) trees) >>= λ r. Some (first ∷ r))) read
    ∙ one_more rules rule (rules_in (drop (i + 1) trees))
