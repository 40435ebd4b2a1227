-- A line decodes in one way: its value is one, each event is that of its value, and the first broken value stops them.
use Rattle.std.proofs.Common.{◌≡◌, ℕ, zero, suc, ◌<◌, ◌≤◌, inl, inr, ⊎_elim, Bool, List, [], ◌∷◌, length, Option, Some, None, slice_get, refl, sym, ap, ◌∙◌, subst, arith}
use Rattle.std.specs.Prelude.{IsSome, is_some, ◌==◌, if◌then◌else◌}
use Rattle.std.proofs.lemmas.Bool.{cases_lt}
use Rattle.std.proofs.lemmas.Option.{same_Some, slice_get_within}
use Rattle.base_types.specs.declared.kubernetes.request.RequestAttrs.{RequestAttrs}
use Rattle.serde_json.specs.Data.{Data}
use Rattle.audit_event.specs.declared.event.Event.{Event}
use Rattle.audit_event.specs.declared.fault.Malformed.{Malformed}
use Rattle.audit_event.specs.declared.fault.Malformed.TheVariants.{M1, M2, M3, M4, M5, M6, M7, M8, M9, M10, M11, M12}
use Rattle.audit_event.specs.Events.{HasFieldsOf, IsEventOf, IsRequestOf, IsValueOf}
use Rattle.audit_event.specs.Rules.{IsFirstBroken, Keeps, rank}
use Rattle.audit_event.specs.Statuses.{status_in}
use Rattle.batch_decode.specs.Batches.{AreEventsOf, Decodes, DecodesValue, DecodesValues, IsDecoded, IsFaultBehind}
use Rattle.batch_decode.specs.Lists.{heading_of, list_items, values_of}
use Rattle.batch_decode.specs.declared.decoded.Decoded.{Decoded}
use Rattle.batch_decode.specs.declared.decoded.ItemFault.{ItemFault}

value_once : (bytes : List ℕ) (v w : Data) → IsValueOf bytes v → IsValueOf bytes w → v ≡ w
value_once bytes v w a b = same_Some v w (sym a.reads ∙ b.reads)

some_is : {A : Type 0} (o : Option A) (x : A) → o ≡ Some x → IsSome o
some_is o x is = ap is_some is

attrs_once : (value : Data) (x y : RequestAttrs) → IsRequestOf value x → IsRequestOf value y → x ≡ y
attrs_once value x y a b =
    let verbs : a.verb ≡ b.verb = same_Some a.verb b.verb (sym a.has_verb ∙ b.has_verb) in
    let uris : a.uri ≡ b.uri = same_Some a.uri b.uri (sym a.has_uri ∙ b.has_uri) in
    let moved = rw (verbs, uris) at a.is in
    moved ∙ sym b.is

event_once : (value : Data) (line : ℕ) (x y : Event) → HasFieldsOf value line x → HasFieldsOf value line y → x ≡ y
event_once value line x y a b =
    let lines : x.line ≡ y.line = a.line_is ∙ sym b.line_is in
    let levels = same_Some x.level y.level (sym a.level ∙ b.level) in
    let stages = same_Some x.stage y.stage (sym a.stage ∙ b.stage) in
    let times = same_Some _ _ (sym a.times ∙ b.times) in
    let ids = same_Some x.audit_id y.audit_id (sym a.audit_id ∙ b.audit_id) in
    let attrs = attrs_once value x.attrs y.attrs a.attrs b.attrs in
    let users = same_Some _ _ (sym a.users ∙ b.users) in
    let codes = same_Some a.code b.code (sym a.has_code ∙ b.has_code) in
    let statuses : x.status ≡ y.status = a.status ∙ (λ i. status_in (stages i) (codes i) value) ∙ sym b.status in
    let requests : x.request ≡ y.request = a.request ∙ sym b.request in
    let responses : x.response ≡ y.response = a.response ∙ sym b.response in
    let decisions : x.decision ≡ y.decision = a.decision ∙ sym b.decision in
    λ i. record {
      line = lines i;
      level = levels i;
      audit_id = ids i;
      stage = stages i;
      attrs = attrs i;
      user = (users i).0;
      impersonated = (users i).1;
      status = statuses i;
      request = requests i;
      response = responses i;
      received = (times i).received;
      staged = (times i).staged;
      decision = decisions i;
    }

-- an event's value breaks no rule
kept : (heading : Data → Bool) (value : Data) (line : ℕ) (event : Event) → IsEventOf heading value line event → (code : Malformed) → Keeps heading code value
kept heading value line event is M1 = tt
kept heading value line event is M2 = is.headed
kept heading value line event is M3 = ap is_some is.fields.level
kept heading value line event is M4 = ap is_some is.fields.stage
kept heading value line event is M5 = ap is_some is.fields.times
kept heading value line event is M6 = is.fields.numbers
kept heading value line event is M7 = ap is_some is.fields.audit_id
kept heading value line event is M8 = ap is_some is.fields.attrs.has_uri
kept heading value line event is M9 = record { verb = is.fields.attrs.verb; uri = is.fields.attrs.uri; has_verb = is.fields.attrs.has_verb; has_uri = is.fields.attrs.has_uri; readable = is.fields.attrs.readable }
kept heading value line event is M10 = ap is_some is.fields.users
kept heading value line event is M11 = ap is_some is.fields.has_code
kept heading value line event is M12 = tt

unbroken : (heading : Data → Bool) (value : Data) (line : ℕ) (event : Event) (code : Malformed) → IsEventOf heading value line event → IsFirstBroken heading code value → ⊥
unbroken heading value line event code is first = first.broken (kept heading value line event is code)

of_rank : ℕ → Malformed
of_rank n = if n == 1 then M1 else (if n == 2 then M2 else (if n == 3 then M3 else (if n == 4 then M4 else (if n == 5 then M5 else (if n == 6 then M6 else (if n == 7 then M7 else (if n == 8 then M8 else (if n == 9 then M9 else (if n == 10 then M10 else (if n == 11 then M11 else M12))))))))))

ranked : (code : Malformed) → of_rank (rank code) ≡ code
unfolding of_rank
ranked M1 = refl
ranked M2 = refl
ranked M3 = refl
ranked M4 = refl
ranked M5 = refl
ranked M6 = refl
ranked M7 = refl
ranked M8 = refl
ranked M9 = refl
ranked M10 = refl
ranked M11 = refl
ranked M12 = refl

positive : (code : Malformed) → 1 ≤ rank code
positive M1 = omega arith
positive M2 = omega arith
positive M3 = omega arith
positive M4 = omega arith
positive M5 = omega arith
positive M6 = omega arith
positive M7 = omega arith
positive M8 = omega arith
positive M9 = omega arith
positive M10 = omega arith
positive M11 = omega arith
positive M12 = omega arith

-- a value has one first broken rule
broken_once : (heading : Data → Bool) (value : Data) (a b : Malformed) → IsFirstBroken heading a value → IsFirstBroken heading b value → a ≡ b
broken_once heading value a b x y = ⊎_elim
    (λ below. absurd (x.broken (y.earlier a (positive a) below)))
    (λ upto. ⊎_elim
    (λ above. absurd (y.broken (x.earlier b (positive b) above)))
    (λ down. let same : rank a ≡ rank b = omega arith in sym (ranked a) ∙ ap of_rank same ∙ ranked b)
    (cases_lt (rank b) (rank a)))
    (cases_lt (rank a) (rank b))

-- a list is told by its items
same_items : {X : Type 0} (xs ys : List X) → length xs ≡ length ys → ((k : ℕ) (x y : X) → slice_get xs k ≡ Some x → slice_get ys k ≡ Some y → x ≡ y) → xs ≡ ys
same_items [] [] long each = refl
same_items [] (y ∷ ys) long each = absurd (omega arith)
same_items (x ∷ xs) [] long each = absurd (omega arith)
same_items (x ∷ xs) (y ∷ ys) long each =
    let first : x ≡ y = each 0 x y refl refl in
    let rest : xs ≡ ys = same_items xs ys (omega arith) (λ k a b p q. each (suc k) a b p q) in
    λ i. first i ∷ rest i

item_there : {X : Type 0} (xs : List X) (k : ℕ) → k < length xs → (x : X) × (slice_get xs k ≡ Some x)
item_there [] k within = absurd (omega arith)
item_there (x ∷ xs) zero within = (x, refl)
item_there (x ∷ xs) (suc k) within = item_there xs k (omega arith)

-- the events of one line don't go on behind those of the other
no_more : (heading : Data → Bool) (values : List Data) (events more : List Event) (fault : Option ItemFault) → Decodes heading values events fault → AreEventsOf heading values more
    → length events < length more → ⊥
no_more heading values events more None d each longer =
    let next = item_there more (length events) longer in
    let at = each (length events) next.0 next.1 in
    let within = slice_get_within values (length events) at.0 at.1 in
    let all = d.all in
    omega arith
no_more heading values events more (Some fault) d each longer =
    let stop = d.stops in
    let next = item_there more (length events) longer in
    let at = each (length events) next.0 next.1 in
    let same : stop.value ≡ at.0 = same_Some stop.value at.0 (sym stop.found ∙ ap (slice_get values) stop.index ∙ at.1) in
    unbroken heading at.0 (length events) next.0 fault.code at.2 (subst (IsFirstBroken heading fault.code) same stop.first)

long_once : (heading : Data → Bool) (values : List Data) (x y : List Event) (p q : Option ItemFault) → Decodes heading values x p → Decodes heading values y q → length x ≡ length y
long_once heading values x y p q a b = ⊎_elim
    (λ shorter. absurd (no_more heading values x y p a b.each shorter))
    (λ upto. ⊎_elim
    (λ longer. absurd (no_more heading values y x q b a.each longer))
    (λ down. omega arith)
    (cases_lt (length y) (length x)))
    (cases_lt (length x) (length y))

events_once : (heading : Data → Bool) (values : List Data) (x y : List Event) → length x ≡ length y → AreEventsOf heading values x → AreEventsOf heading values y → x ≡ y
events_once heading values x y long a b = same_items x y long (λ k e f p q.
    let u = a k e p in
    let v = b k f q in
    let same : u.0 ≡ v.0 = same_Some u.0 v.0 (sym u.1 ∙ v.1) in
    event_once v.0 k e f (subst (λ value. HasFieldsOf value k e) same u.2.fields) v.2.fields)

-- a fault stands at a value, and without one there are no more values
no_fault : (heading : Data → Bool) (values : List Data) (events : List Event) (fault : ItemFault) → length events ≡ length values → IsFaultBehind heading values events fault → ⊥
no_fault heading values events fault all stop = let within = slice_get_within values fault.index stop.value stop.found in let index = stop.index in omega arith

fault_once : (heading : Data → Bool) (values : List Data) (x y : List Event) (p q : Option ItemFault) → length x ≡ length y → Decodes heading values x p → Decodes heading values y q → p ≡ q
fault_once heading values x y None None long a b = refl
fault_once heading values x y None (Some fault) long a b = absurd (no_fault heading values y fault (sym long ∙ a.all) b.stops)
fault_once heading values x y (Some fault) None long a b = absurd (no_fault heading values x fault (long ∙ b.all) a.stops)
fault_once heading values x y (Some f) (Some g) long a b = ap Some (λ i. record { index = indexes i; code = codes i })
  where
    indexes : f.index ≡ g.index
    indexes = a.stops.index ∙ long ∙ sym b.stops.index

    same : a.stops.value ≡ b.stops.value
    same = same_Some a.stops.value b.stops.value (sym a.stops.found ∙ ap (slice_get values) indexes ∙ b.stops.found)

    codes : f.code ≡ g.code
    codes = broken_once heading b.stops.value f.code g.code (subst (IsFirstBroken heading f.code) same a.stops.first) b.stops.first

values_once : (heading : Data → Bool) (values : List Data) (a b : Decoded) → DecodesValues heading values a → DecodesValues heading values b → a ≡ b
values_once heading values a b x y = λ i. record { events = events i; taken = taken i; fault = faults i }
  where
    long : length a.events ≡ length b.events
    long = long_once heading values a.events b.events a.fault b.fault x.events y.events

    events : a.events ≡ b.events
    events = events_once heading values a.events b.events long x.events.each y.events.each

    taken : a.taken ≡ b.taken
    taken = x.taken ∙ sym y.taken

    faults : a.fault ≡ b.fault
    faults = fault_once heading values a.events b.events a.fault b.fault long x.events y.events

pub one_decoding : (bytes : List ℕ) (a b : Decoded) → IsDecoded bytes a → IsDecoded bytes b → a ≡ b
one_decoding bytes a b (inl x) (inl y) = x.1 ∙ sym y.1
one_decoding bytes a b (inl x) (inr y) = absurd (x.0 (y.0, y.1))
one_decoding bytes a b (inr x) (inl y) = absurd (y.0 (x.0, x.1))
one_decoding bytes a b (inr x) (inr y) =
    let same = value_once bytes x.0 y.0 x.1 y.1 in
    values_once (heading_of (list_items y.0)) (values_of (list_items y.0) y.0) a b (subst (λ value. DecodesValue value a) same x.2) y.2
