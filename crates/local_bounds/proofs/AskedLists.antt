-- What a list asks, from what is asked for its items and for the keys that it lacks.
use Rattle.std.proofs.Common.{◌≡◌, ◌≢◌, ℕ, ◌≤◌, Bor, List, [], ◌∷◌, ◌++◌, map, AllPairs, Contains, refl, sym, ap, subst, arith}
use Rattle.base_types.specs.declared.kubernetes.key.ObjectKey.{ObjectKey}
use Rattle.history_model.specs.Bounding.{SomewhereIn, Demand, Shows, Lacks}
use Rattle.history_model.specs.Histories.{History}
use Rattle.history_model.specs.Readable.{IsReadable}
use Rattle.history_model.specs.Right.{IsListRight}
use Rattle.history_model.specs.States.{state}
use Rattle.write_groups.proofs.Lists.{pairs_map}
use Rattle.write_groups.specs.declared.event.Listing.{Listing}
use Rattle.write_groups.specs.Modelled.{item_of, listing_of}
use Rattle.local_bounds.proofs.Askings.{zip_append}
use Rattle.local_bounds.proofs.Asks.{asking_same}
use Rattle.local_bounds.proofs.ListRight.{demands_of, list_is, demands_apart}
use Rattle.local_bounds.proofs.Together.{asked_together}
use Rattle.local_bounds.specs.declared.asking.BoundDemand.{BoundDemand}
use Rattle.local_bounds.specs.declared.asking.KeyDemand.{KeyDemand}
use Rattle.local_bounds.specs.Asked.{IsAsking}
use Rattle.local_bounds.specs.Demands.{AreAsked, AreAskedOfList, IsDemandAsking, IsMetUnder, IsTogether}
use Rattle.local_bounds.specs.Lacked.{AreLacked}

mapped : {X Y Z : Type 0} (f : Y → Z) (g : X → Y) (xs : List X) → map (λ x. f (g x)) xs ≡ map f (map g xs)
mapped f g [] = refl
mapped f g (x ∷ xs) = ap (λ l. f (g x) ∷ l) (mapped f g xs)

pub all_asked : (h : History) (number place : ℕ) (listing : Listing) (lacked : List (Bor ObjectKey)) → place ≡ listing.revision → AreLacked h (listing_of listing) (map (λ key. key.now) lacked)
    → (askings others all : List KeyDemand) → AreAsked h number place (map (λ item. Shows (item_of item)) listing.items) askings → AreAsked h number place (map (λ key. Lacks key.now) lacked) others → all ≡ askings ++ others
    → AreAskedOfList h number (listing_of listing) all
all_asked h number place listing lacked at lacks askings others all a b e = record {
  lacked = map (λ key. key.now) lacked;
  lacks = lacks;
  asked =
      subst (λ l. AreAsked h number listing.revision (demands_of (map item_of listing.items) (map (λ (key : Bor ObjectKey). key.now) lacked)) l) (sym e)
      (zip_append (IsDemandAsking h number listing.revision) (map Shows (map item_of listing.items)) (map Lacks (map (λ (key : Bor ObjectKey). key.now) lacked)) askings others
      (subst (λ ds. AreAsked h number listing.revision ds askings) (mapped Shows item_of listing.items) (subst (λ n. AreAsked h number n (map (λ item. Shows (item_of item)) listing.items) askings) at a))
      (subst (λ ds. AreAsked h number listing.revision ds others) (mapped Lacks (λ (key : Bor ObjectKey). key.now) lacked) (subst (λ n. AreAsked h number n (map (λ (key : Bor ObjectKey). Lacks key.now) lacked) others) at b)));
}

pub list_asked : (h : History) → IsReadable h → (number place low high : ℕ) (listing : Listing) → place ≡ listing.revision → AllPairs (λ a b. a.key ≢ b.key) listing.items
    → (all : List KeyDemand) (asking : BoundDemand) → AreAskedOfList h number (listing_of listing) all → low ≤ place → place ≤ high → IsTogether all asking
    → IsAsking h (λ choice. SomewhereIn low high (λ x. IsListRight h number (listing_of listing) x (state h choice x))) asking
list_asked h r number place low high listing at distinct all asking asks l m t =
    let apart : AllPairs (λ a b. a.key ≢ b.key) (listing_of listing).items = pairs_map item_of (λ a b. a.key ≢ b.key) listing.items distinct in
    asking_same h (λ choice. (d : Demand) → Contains (demands_of (map item_of listing.items) asks.lacked) d → IsMetUnder h number listing.revision choice d)
    (λ choice. SomewhereIn low high (λ x. IsListRight h number (listing_of listing) x (state h choice x))) asking
    (λ choice chosen. list_is h r number (listing_of listing) asks.lacked asks.lacks apart choice chosen low high (omega (arith, l, at)) (omega (arith, m, at)))
    (asked_together h number listing.revision (demands_of (map item_of listing.items) asks.lacked) all asking asks.asked
    (demands_apart h r number (listing_of listing) asks.lacked asks.lacks apart) t)
