-- What a list asks of each key.
use Rattle.std.specs.Prelude.{◌≡◌, ◌≢◌, ℕ, List, [], ◌∷◌, ◌++◌, map, Option, All, Contains}
use Rattle.std.specs.List.{AllZip}
use Rattle.std.specs.List.Sorted.{IsPermutation, IsNonDecreasingBy}
use Rattle.base_types.specs.declared.verdict.claim.Bound.{Bound}
use Rattle.base_types.specs.declared.kubernetes.key.ObjectKey.{ObjectKey}
use Rattle.history_model.specs.Bounding.{Demand, Shows, Lacks, demand_key}
use Rattle.history_model.specs.Events.{Listing}
use Rattle.history_model.specs.Histories.{History, Version}
use Rattle.history_model.specs.Right.{IsListed, IsLacked}
use Rattle.history_model.specs.States.{state}
use Rattle.local_bounds.specs.declared.asking.BoundDemand.{BoundDemand}
use Rattle.local_bounds.specs.declared.asking.BoundDemand.TheVariants as whole
use Rattle.local_bounds.specs.declared.asking.KeyDemand.{KeyDemand}
use Rattle.local_bounds.specs.declared.asking.KeyDemand.TheVariants.{Free, Under, Never}
use Rattle.local_bounds.specs.Asked.{IsKeyAsking}
use Rattle.local_bounds.specs.Lacked.{AreLacked}

-- the object that is there, or none, is as the list says
abbrev pub IsMet : History → ℕ → ℕ → Demand → Option Version → Type 0
IsMet h number place (Shows item) found = IsListed h number place item found
IsMet h number place (Lacks key) found = IsLacked h number place key found

abbrev pub IsMetUnder : History → ℕ → ℕ → List ℕ → Demand → Type 0
IsMetUnder h number place choice demand = IsMet h number place demand (state h choice place (demand_key demand))

abbrev pub IsDemandAsking : History → ℕ → ℕ → Demand → KeyDemand → Type 0
IsDemandAsking h number place demand asking = IsKeyAsking h (demand_key demand) (λ choice. IsMetUnder h number place choice demand) asking

-- what is asked for each of these, in their order
abbrev pub AreAsked : History → ℕ → ℕ → List Demand → List KeyDemand → Type 0
AreAsked h number place demands askings = AllZip (IsDemandAsking h number place) demands askings

-- what is asked for each item of a list, and behind that for each key that it lacks
pub record AreAskedOfList (h : History) (number : ℕ) (listing : Listing) (askings : List KeyDemand) : Type 0 where
  pub lacked : List ObjectKey
  pub lacks : AreLacked h listing lacked
  pub asked : AreAsked h number listing.revision (map Shows listing.items ++ map Lacks lacked) askings

abbrev pub bounds_in : List KeyDemand → List Bound
bounds_in [] = []
bounds_in (Free ∷ askings) = bounds_in askings
bounds_in (Under bound ∷ askings) = bound ∷ bounds_in askings
bounds_in (Never ∷ askings) = bounds_in askings

abbrev pub IsPossible : List KeyDemand → Type 0
IsPossible askings = All (λ asking. asking ≢ Never) askings

-- all of it
abbrev pub IsTogether : List KeyDemand → BoundDemand → Type 0
IsTogether askings whole.Free = IsPossible askings × (bounds_in askings ≡ [])
IsTogether askings (whole.Under bounds) = IsPossible askings × IsPermutation (bounds_in askings) bounds × IsNonDecreasingBy (λ bound. bound.range) bounds
IsTogether askings whole.Never = Contains askings Never
