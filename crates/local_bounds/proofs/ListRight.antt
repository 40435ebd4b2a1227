-- A list is right where all that it asks is met.
use Rattle.std.proofs.Common.{◌≡◌, ◌≢◌, ℕ, ◌≤◌, ◌⊎◌, ◌↔◌, List, [], ◌∷◌, ◌++◌, map, Option, Some, None, AllPairs, Contains, inl, inr, refl, sym, ap, ◌∙◌, subst}
use Rattle.std.proofs.lemmas.List.Elements.{All-append, Contains-append_left, Contains-append_right, Contains-append_cases}
use Rattle.base_types.specs.Choices.{IsChoice}
use Rattle.base_types.specs.declared.kubernetes.key.ObjectKey.{ObjectKey}
use Rattle.history_model.proofs.Latest.{latest_is}
use Rattle.history_model.proofs.LocalBounds.{nothing_yet}
use Rattle.history_model.proofs.Members.{here, there, all_from, pairs_head, pairs_tail, pairs_cons}
use Rattle.history_model.specs.Bounding.{SomewhereIn, Demand, Shows, Lacks, demand_key, IsAsked}
use Rattle.history_model.specs.Events as model
use Rattle.history_model.specs.Histories.{History, Version, ranges}
use Rattle.history_model.specs.Readable.{IsReadable}
use Rattle.history_model.specs.Right.{IsListRight, IsUnlistable, IsLacked}
use Rattle.history_model.specs.States.{latest, IsLatest, state}
use Rattle.write_groups.proofs.Lists.{map_from, map_has, pairs_map}
use Rattle.local_bounds.specs.Demands.{IsMetUnder}
use Rattle.local_bounds.specs.Lacked.{AreLacked}

pub pairs_append : {X : Type 0} (R : X → X → Type 0) (xs ys : List X) → AllPairs R xs → AllPairs R ys → ((x y : X) → Contains xs x → Contains ys y → R x y) → AllPairs R (xs ++ ys)
pairs_append R [] ys p q across = q
pairs_append R (x ∷ xs) ys p q across = pairs_cons R x (xs ++ ys)
    (All-append (R x) xs ys (pairs_head R x xs p) (all_from (R x) ys (λ y c. across x y (here x xs) c)))
    (pairs_append R xs ys (pairs_tail R x xs p) q (λ a b c d. across a b (there x a xs c) d))

-- all that a list asks: its items, and the keys that it lacks
abbrev pub demands_of : List model.Item → List ObjectKey → List Demand
demands_of items keys = map Shows items ++ map Lacks keys

module _ (h : History) (r : IsReadable h) (number : ℕ) (listing : model.Listing) (keys : List ObjectKey) (lacked : AreLacked h listing keys) (distinct : AllPairs (λ a b. a.key ≢ b.key) listing.items) where
  shows_in : (item : model.Item) → Contains listing.items item → Contains (demands_of listing.items keys) (Shows item)
  shows_in item c = Contains-append_left (map Shows listing.items) (map Lacks keys) (Shows item) (map_has Shows listing.items item c)

  lacks_in : (key : ObjectKey) → Contains keys key → Contains (demands_of listing.items keys) (Lacks key)
  lacks_in key c = Contains-append_right (map Shows listing.items) (map Lacks keys) (Lacks key) (map_has Lacks keys key c)

  module _ (choice : List ℕ) (chosen : IsChoice (ranges h) choice) where
    abbrev AllMet : Type 0
    AllMet = (d : Demand) → Contains (demands_of listing.items keys) d → IsMetUnder h number listing.revision choice d

    lacks_met : AllMet → (key : ObjectKey) → IsAsked listing (Lacks key) → IsLacked h number listing.revision key (state h choice listing.revision key)
    lacks_met met key asked = go (latest h.versions key listing.revision) refl (latest_is h.versions key listing.revision)
      where
        go : (o : Option Version) → latest h.versions key listing.revision ≡ o → IsLatest h.versions key listing.revision (latest h.versions key listing.revision)
            → IsLacked h number listing.revision key (state h choice listing.revision key)
        go None e l = inr (subst (λ o. IsUnlistable h number o) (sym (nothing_yet h choice r chosen key listing.revision e)) tt)
        go (Some v) e l = met (Lacks key) (lacks_in key (lacked.full key v asked (known.0) (known.1)))
          where
            known : IsLatest h.versions key listing.revision (Some v)
            known = subst (λ o. IsLatest h.versions key listing.revision o) e l

    right_from : AllMet → IsListRight h number listing listing.revision (state h choice listing.revision)
    right_from met = record {
      at_revision = refl;
      distinct = distinct;
      shows = λ item c. met (Shows item) (shows_in item c);
      lacks = λ w key s n. lacks_met met key (w, s, n);
    }

    met_from : IsListRight h number listing listing.revision (state h choice listing.revision) → AllMet
    met_from right = λ d c. go d (Contains-append_cases (map Shows listing.items) (map Lacks keys) d c)
      where
        of_item : (d : Demand) → (item : model.Item) × Contains listing.items item × (Shows item ≡ d) → IsMetUnder h number listing.revision choice d
        of_item d (item, c, e) = subst (IsMetUnder h number listing.revision choice) e (right.shows item c)

        of_key : (d : Demand) → (key : ObjectKey) × Contains keys key × (Lacks key ≡ d) → IsMetUnder h number listing.revision choice d
        of_key d (key, c, e) = subst (IsMetUnder h number listing.revision choice) e (right.lacks asked.0 key asked.1 asked.2)
          where
            asked : IsAsked listing (Lacks key)
            asked = lacked.sound key c

        go : (d : Demand) → Contains (map Shows listing.items) d ⊎ Contains (map Lacks keys) d → IsMetUnder h number listing.revision choice d
        go d (inl c) = of_item d (map_from Shows listing.items d c)
        go d (inr c) = of_key d (map_from Lacks keys d c)

    pub list_is : (low high : ℕ) → low ≤ listing.revision → listing.revision ≤ high
        → ((d : Demand) → Contains (demands_of listing.items keys) d → IsMetUnder h number listing.revision choice d)
        ↔ SomewhereIn low high (λ x. IsListRight h number listing x (state h choice x))
    list_is low high l m = ((λ met. (listing.revision, l, m, right_from met)), back)
      where
        back : SomewhereIn low high (λ x. IsListRight h number listing x (state h choice x)) → AllMet
        back (x, l', m', right) = met_from (subst (λ z. IsListRight h number listing z (state h choice z)) right.at_revision right)

  -- no two demands are of one key
  pub demands_apart : AllPairs (λ a b. demand_key a ≢ demand_key b) (demands_of listing.items keys)
  demands_apart = pairs_append (λ a b. demand_key a ≢ demand_key b) (map Shows listing.items) (map Lacks keys)
      (pairs_map Shows (λ a b. demand_key a ≢ demand_key b) listing.items distinct) (pairs_map Lacks (λ a b. demand_key a ≢ demand_key b) keys lacked.distinct)
      (λ d e c k. go d e (map_from Shows listing.items d c) (map_from Lacks keys e k))
    where
      go : (d e : Demand) → (item : model.Item) × Contains listing.items item × (Shows item ≡ d) → (key : ObjectKey) × Contains keys key × (Lacks key ≡ e) → demand_key d ≢ demand_key e
      go d e (item, c, s) (key, k, t) same = asked.2 (item, c, ap demand_key s ∙ same ∙ sym (ap demand_key t))
        where
          asked : IsAsked listing (Lacks key)
          asked = lacked.sound key k
