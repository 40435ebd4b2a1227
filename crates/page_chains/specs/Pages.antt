-- Pages of lists (Kubernetes API concepts, "Retrieving large results sets in chunks").
use Rattle.std.specs.Prelude.{ℕ, Bool, true, false, ◌||◌, List, [], ◌∷◌, Option, Some, None, filter, codes, if◌then◌else◌}
use Rattle.std.specs.List.{filter_map}
use Rattle.base_types.specs.Parts.{member_of}
use Rattle.base_types.specs.Texts.{◌>>=◌, filled_at}
use Rattle.base_types.specs.declared.kubernetes.request.Pair.{Pair}
use Rattle.base_types.specs.declared.kubernetes.request.RequestAttrs.{RequestAttrs}
use Rattle.audit_event.specs.declared.event.Event.{Event}
use Rattle.setup_file.specs.declared.setup.Setup.{Setup}
use Rattle.setup_file.specs.declared.setup.SnapshotObject.{SnapshotObject}
use Rattle.audit_event.specs.Bodies.{kept}
use Rattle.answer_class.specs.Classes.{class_of}
use Rattle.answer_class.specs.Requests.{is_filled, has_filled}
use Rattle.answer_class.specs.declared.answer.Answer.{Answer}
use Rattle.answer_class.specs.declared.answer.Answer.TheVariants.{Made, Removed, Opaque, Saw, SawNone, SawSome, SawOther, Listed, Free, Aside}
use Rattle.page_chains.specs.declared.page.Asked.{Asked}
use Rattle.page_chains.specs.declared.page.Asked.TheVariants.{First, Next, Unclear}
use Rattle.page_chains.specs.declared.page.Page.{Page}

-- the token of the page that follows: a `metadata.continue` that is a text and isn't empty
abbrev pub token_of : Event → Option (List ℕ)
token_of event = kept event.response >>= member_of (codes "metadata") >>= filled_at (codes "continue")

-- the page that these members `continue` ask for
abbrev pub asked_by : List Pair → Asked
asked_by [] = First
asked_by (p ∷ []) = Next p.value
asked_by (p ∷ q ∷ ps) = Unclear

abbrev pub asked_of : RequestAttrs → Asked
asked_of attrs = asked_by (filter (is_filled (codes "continue")) attrs.query)

abbrev pub is_first : Asked → Bool
is_first First = true
is_first (Next token) = false
is_first Unclear = false

-- a selector may leave objects out
abbrev pub is_selective : RequestAttrs → Bool
is_selective attrs = has_filled (codes "labelSelector") attrs || has_filled (codes "fieldSelector") attrs

abbrev pub page_with : Event → List ℕ → List ℕ → List ℕ → ℕ → List SnapshotObject → Page
page_with event group resource scope revision items = record {
  line = event.line;
  staged = event.staged;
  group = group;
  resource = resource;
  namespace = event.attrs.namespace;
  scope = scope;
  revision = revision;
  items = items;
  token = token_of event;
  asked = asked_of event.attrs;
}

abbrev pub page_in : Event → Answer → Option Page
page_in event (Made key revision uid object created) = None
page_in event (Removed key uid) = None
page_in event (Opaque cover) = None
page_in event (Saw key revision uid object) = None
page_in event (SawNone key) = None
page_in event (SawSome key) = None
page_in event (SawOther key) = None
page_in event (Listed group resource scope revision whole items selector) = Some (page_with event group resource scope revision items)
page_in event Free = None
page_in event Aside = None

-- the page of a list that an event is
abbrev pub page_of : Setup → Event → Option Page
page_of setup event = if is_selective event.attrs then None else page_in event (class_of setup event)

-- the pages among these events
abbrev pub pages_of : Setup → List Event → List Page
pages_of setup events = filter_map (page_of setup) events
