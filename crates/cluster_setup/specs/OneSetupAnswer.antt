-- The same bytes come to one setup, or no setup is made of them for one reason.
use Rattle.std.specs.Prelude.{◌≡◌, ℕ, Bool, List}
use Rattle.cluster_setup.specs.Answers.{IsMade, Refuses}
use Rattle.cluster_setup.specs.declared.fault.SetupRefusal.{SetupRefusal}

pub record OneSetupAnswer : Type 0 where
  pub texts : (time policy : List ℕ) (files : List (List ℕ)) (authorize : Bool) (a b : List ℕ)
      → IsMade time policy files authorize a → IsMade time policy files authorize b → a ≡ b
  pub refusals : (time policy : List ℕ) (files : List (List ℕ)) (authorize : Bool) (a b : SetupRefusal)
      → Refuses time policy files authorize a → Refuses time policy files authorize b → a ≡ b
  pub apart : (time policy : List ℕ) (files : List (List ℕ)) (authorize : Bool) (text : List ℕ) (refusal : SetupRefusal)
      → IsMade time policy files authorize text → Refuses time policy files authorize refusal → ⊥
