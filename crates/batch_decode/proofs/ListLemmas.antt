-- The events of a list's values, and the numbers that they take.
use Rattle.std.proofs.Common.{◌≡◌, ℕ, zero, suc, ◌+◌, ◌≤◌, ◌<◌, List, [], ◌∷◌, ◌++◌, length, get_or, map, slice_get, max, Bool, true, false, if◌then◌else◌, Option, Some, None, option_and_then, Result, Ok, Err, inr, refl, sym, ap, subst, ◌∙◌, arith, length-append}
use Rattle.std.proofs.lemmas.List.Elements.{All-push}
use Rattle.std.proofs.lemmas.Option.{slice_get-get_or}
use Rattle.std.specs.Prelude.{All, IfSome, IfOk, codes}
use Rattle.base_types.specs.declared.foundation.memory.OutOfMemory.{OutOfMemory}
use Rattle.line_reader.specs.declared.line.Line.{Line}
use Rattle.serde_json.specs.Data.{Data, Items, array}
use Rattle.serde_json.specs.Find.{get, as_array}
use Rattle.serde_json.specs.Read as reading
use Rattle.borrowed_json.specs.View.{view, items_view}
use Rattle.borrowed_json.specs.declared.value.JsonValue.{JsonValue}
use Rattle.audit_event.specs.declared.event.Event.{Event}
use Rattle.audit_event.specs.Events.{IsEventOf, IsValueOf, IsSound}
use Rattle.audit_event.specs.Headings.{is_item, is_of_kind}
use Rattle.base_types.specs.Items.{item_list}
use Rattle.packed_tree.proofs.Sizes.{is_array, member_within}
use Rattle.batch_decode.specs.declared.decoded.Decoded.{Decoded}
use Rattle.batch_decode.specs.declared.decoded.ItemFault.{ItemFault}
use Rattle.batch_decode.specs.Batches.{AreEventsOf, IsFaultBehind, DecodesValues, DecodesValue, IsNumbered, IsDecodedLine}
use Rattle.batch_decode.specs.Lists.{list_items, heading_of, values_of}

pub item_list-items_view : (vs : List JsonValue) → item_list (items_view vs) ≡ map view vs
item_list-items_view [] = refl
item_list-items_view (v ∷ vs) = ap (λ l. view v ∷ l) (item_list-items_view vs)

pub is_within : {X : Type 0} (xs : List X) (k : ℕ) (x : X) → slice_get xs k ≡ Some x → k < length xs
is_within [] k x is = absurd (cc)
is_within (y ∷ ys) zero x is = omega arith
is_within (y ∷ ys) (suc k) x is = let rest = is_within ys k x is in omega arith

pub value_at : (vs : List JsonValue) (k : ℕ) (d : JsonValue) → k < length vs → slice_get (map view vs) k ≡ Some (view (get_or vs k d))
value_at [] k d within = absurd (omega arith)
value_at (v ∷ vs) zero d within = refl
value_at (v ∷ vs) (suc k) d within = value_at vs k d (omega arith)

-- one of the events, or the one that was put behind them
at_or_last : {X : Type 0} (P : ℕ → X → Type 0) (xs : List X) (y : X) → ((k : ℕ) (x : X) → slice_get xs k ≡ Some x → P k x) → P (length xs) y
    → (k : ℕ) (x : X) → slice_get (xs ++ y ∷ []) k ≡ Some x → P k x
at_or_last P [] y each last zero x is = let same : y ≡ x = cc in subst (P 0) same last
at_or_last P [] y each last (suc k) x is = absurd (cc)
at_or_last P (z ∷ zs) y each last zero x is = each zero x is
at_or_last P (z ∷ zs) y each last (suc k) x is = at_or_last (λ n x. P (suc n) x) zs y (λ k x is. each (suc k) x is) last k x is

pub events_more : (heading : Data → Bool) (values : List Data) (events : List Event) (event : Event) (value : Data) → AreEventsOf heading values events
    → slice_get values (length events) ≡ Some value → IsEventOf heading value (length events) event → AreEventsOf heading values (events ++ event ∷ [])
events_more heading values events event value each at is =
    at_or_last (λ k event. (value : Data) × (slice_get values k ≡ Some value) × IsEventOf heading value k event) events event each (value, at, is)

-- one item more is read
pub item_read : (vs : List JsonValue) (i : ℕ) (item : JsonValue) (events after : List Event) (event : Event) → i < length vs → item ≡ get_or vs i item → length events ≡ i
    → AreEventsOf is_item (map view vs) events → All IsSound events → IsEventOf is_item (view item) i event → IsSound event → after ≡ events ++ event ∷ []
    → (length after ≡ i + 1) × AreEventsOf is_item (map view vs) after × All IsSound after
item_read vs i item events after event within at count each sounds is sound more =
    let long = length-append events (event ∷ []) in
    let same = ap length more in
    let found : slice_get (map view vs) (length events) ≡ Some (view item) = ap (slice_get (map view vs)) count ∙ value_at vs i item within ∙ ap (λ v. Some (view v)) (sym at) in
    let here : IsEventOf is_item (view item) (length events) event = subst (λ n. IsEventOf is_item (view item) n event) (sym count) is in (
      omega arith,
      subst (AreEventsOf is_item (map view vs)) (sym more) (events_more is_item (map view vs) events event (view item) each found here),
      subst (All IsSound) (sym more) (All-push IsSound events event sounds sound),
    )

listed : (b : Bool) (found : Option Data) (ds : Items) → (if b then option_and_then as_array found else None) ≡ Some ds → found ≡ Some (array ds)
listed true None ds is = absurd (cc)
listed true (Some d) ds is = ap Some (is_array d ds is)
listed false found ds is = absurd (cc)

-- an EventList has at most as many items as its text has bytes
items_within : (text : List ℕ) (d : Data) (ds : Items) → reading.read text ≡ Some d → list_items d ≡ Some ds → length (item_list ds) ≤ length text
items_within text d ds reads lists =
    member_within text (codes "items") d ds reads (listed (is_of_kind (codes "EventList") d) (get (codes "items") d) ds lists)

few_values : (bytes : List ℕ) (value : Data) → IsValueOf bytes value → (items : Option Items) → list_items value ≡ items → max 1 (length (values_of items value)) ≤ max 1 (length bytes)
few_values bytes value is None was = omega arith
few_values bytes value is (Some items) was = let few = items_within bytes value items is.reads was in omega arith

-- each event and the fault has one of the numbers that the line takes
pub numbered : (bytes : List ℕ) (value : Data) (decoded : Decoded) → IsValueOf bytes value → DecodesValue value decoded → IsNumbered bytes decoded
numbered bytes value decoded is decodes =
    let values = values_of (list_items value) value in
    let few = few_values bytes value is (list_items value) refl in
    record {
      some = omega (arith, decodes.taken);
      few = omega (arith, decodes.taken, few);
      events = λ k d within.
          (let event = get_or decoded.events k d in
          let found = decodes.events.each k event (slice_get-get_or decoded.events k d within) in
          let below = is_within values k found.0 found.1 in
          let line = found.2.fields.line_is in
          omega (arith, decodes.taken, below, line));
      fault = by decoded.fault decodes.events.stops;
    }
  where
    by : (fault : Option ItemFault) → IfSome fault (IsFaultBehind (heading_of (list_items value)) (values_of (list_items value) value) decoded.events) → IfSome fault (λ fault. fault.index < decoded.taken)
    by None stops = tt
    by (Some fault) stops = let below = is_within (values_of (list_items value) value) fault.index stops.value stops.found in omega (arith, decodes.taken, below)

pub listed_value : (vs : List JsonValue) (value : Data) (answer : Result Decoded OutOfMemory) → Some (items_view vs) ≡ list_items value → IfOk answer (DecodesValues is_item (map view vs)) → IfOk answer (DecodesValue value)
listed_value vs value answer lists decodes =
    subst (λ items. IfOk answer (DecodesValues (heading_of items) (values_of items value))) lists
    (subst (λ values. IfOk answer (DecodesValues is_item values)) (sym (item_list-items_view vs)) decodes)

pub decoded_line : (line : Line) (value : Data) (answer : Result Decoded OutOfMemory) → IsValueOf line.bytes value → IfOk answer (DecodesValue value) → IfOk answer (λ decoded. All IsSound decoded.events) → IfOk answer (IsDecodedLine line)
decoded_line line value (Ok decoded) is decodes sound = record { decoded_is = inr (value, is, decodes); numbered = numbered line.bytes value decoded is decodes; sound = sound }
decoded_line line value (Err refused) is decodes sound = tt
