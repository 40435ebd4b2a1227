-- What `can` prints: which decisions an authorizer could have given whose four caches all stood at a place.
use Rattle.std.specs.Prelude.{◌≡◌, ◌↔◌, ℕ, Bool, true, false, List, codes}
use Rattle.base_types.specs.declared.verdict.placed.Places.{Places}
use Rattle.base_types.specs.declared.kubernetes.request.Decision.TheVariants.{Allow, Forbid}
use Rattle.base_types.specs.declared.kubernetes.request.RequestAttrs.{RequestAttrs}
use Rattle.base_types.specs.declared.kubernetes.request.User.{User}
use Rattle.rbac_timeline.specs.Decisions.{IsPossible}
use Rattle.verdict_text.specs.Words.{ended}
use Rattle.log_context.specs.Known.{Known}
use Rattle.history_query.specs.Telling.{IsBelowStart, IsToldText}

abbrev pub equal_places : ℕ → Places
equal_places place = record { roles = place; cluster_roles = place; bindings = place; cluster_bindings = place }

-- either, or the only decision that is possible
abbrev pub possible_word : (allow forbid : Bool) → List ℕ
possible_word true true = codes "either"
possible_word true false = codes "allow"
possible_word false forbid = codes "forbid"

pub record IsDecision (known : Known) (place : ℕ) (who : User) (attrs : RequestAttrs) (text : List ℕ) : Type 0 where
  pub allow : Bool
  pub forbid : Bool
  pub allowed : (allow ≡ true) ↔ IsPossible known.rbac (equal_places place) who attrs Allow
  pub forbidden : (forbid ≡ true) ↔ IsPossible known.rbac (equal_places place) who attrs Forbid
  pub word : text ≡ ended (possible_word allow forbid)

-- `unjudged` at every place where the setup doesn't judge decisions
abbrev pub IsCanTextBy : Bool → Known → ℕ → User → RequestAttrs → List ℕ → Type 0
IsCanTextBy false known place who attrs text = text ≡ ended (codes "unjudged")
IsCanTextBy true known place who attrs text = IsToldText (IsBelowStart known place) (IsDecision known place who attrs) text

abbrev pub IsCanText : Known → ℕ → User → RequestAttrs → List ℕ → Type 0
IsCanText known place who attrs text = IsCanTextBy known.setup.authorize known place who attrs text
