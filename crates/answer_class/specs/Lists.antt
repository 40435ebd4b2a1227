-- Answers to list requests (Kubernetes API concepts, "Retrieving large results sets in chunks"; "Field Selectors";
-- "Labels and Selectors").
use Rattle.std.specs.Prelude.{ℕ, ◌&&◌, ◌||◌, Bool, true, false, not, List, [], ◌∷◌, Option, Some, None, filter, codes, bytes_eq, is_some, nat_lt, if◌then◌else◌}
use Rattle.base_types.specs.Parts.{member_of}
use Rattle.base_types.specs.Texts.{◌>>=◌, revision_at}
use Rattle.label_select.specs.Readings.{selector_of}
use Rattle.label_select.specs.declared.selector.Requirement.{Requirement}
use Rattle.base_types.specs.declared.kubernetes.request.Pair.{Pair}
use Rattle.base_types.specs.declared.kubernetes.request.RequestAttrs.{RequestAttrs}
use Rattle.audit_event.specs.declared.event.Event.{Event}
use Rattle.base_types.specs.Revisions.{revision_of}
use Rattle.setup_file.specs.Lists.{list_of}
use Rattle.setup_file.specs.declared.lists.ListRead.{ListRead}
use Rattle.setup_file.specs.declared.setup.Setup.{Setup}
use Rattle.setup_file.specs.declared.setup.Tracked.{Tracked}
use Rattle.audit_event.specs.Bodies.{kept}
use Rattle.answer_class.specs.Requests.{is_empty, is_filled, has_filled, first_value}
use Rattle.answer_class.specs.declared.lists.Extent.{Extent}
use Rattle.answer_class.specs.declared.request.Verb.{Verb}
use Rattle.answer_class.specs.declared.request.Verb.TheVariants.{Create, Update, Patch, Delete, DeleteCollection, Get, Listing, Other}

abbrev pub not_whole : Extent
not_whole = record { whole = false; selector = None }

abbrev pub selected : Option (List Requirement) → Extent
selected None = not_whole
selected (Some selector) = record { whole = true; selector = Some selector }

-- none of these, or one alone
abbrev pub one_at_most : List Pair → Option (Option Pair)
one_at_most [] = Some None
one_at_most (p ∷ []) = Some (Some p)
one_at_most (p ∷ q ∷ ps) = None

abbrev pub extent_by : Option (Option Pair) → Extent
extent_by None = not_whole
extent_by (Some None) = record { whole = true; selector = None }
extent_by (Some (Some p)) = selected (selector_of p.value)

-- one label selector at most, which is in the grammar, no field selector, and no further page
abbrev pub extent_of : RequestAttrs → Bool → Extent
extent_of attrs rest =
    if rest || has_filled (codes "fieldSelector") attrs || has_filled (codes "continue") attrs
    then not_whole
    else extent_by (one_at_most (filter (is_filled (codes "labelSelector")) attrs.query))

-- the namespace that a list is of: all of them where it is empty
abbrev pub list_namespace : Tracked → RequestAttrs → List ℕ
list_namespace tracked attrs = if tracked.namespaced then attrs.namespace else []

-- the list that the answer is, under the request's path
abbrev pub answered_list : Tracked → Event → Option ListRead
answered_list tracked event = kept event.response >>= list_of tracked event.attrs.name event.attrs.namespace

-- the revision at which the answer was read
abbrev pub answered_at : Event → Option ℕ
answered_at event = kept event.response >>= member_of (codes "metadata") >>= revision_at (codes "resourceVersion")

-- a `resourceVersion` that asks for a certain revision
abbrev pub asks_revision : Option (List ℕ) → Bool
asks_revision None = false
asks_revision (Some text) = is_some (revision_of text)

-- one that is neither empty nor `0` nor a revision
abbrev pub is_odd : Option (List ℕ) → Bool
is_odd None = false
is_odd (Some text) = not (is_empty text) && not (bytes_eq text (codes "0")) && not (is_some (revision_of text))

abbrev pub is_below : ℕ → Option ℕ → Bool
is_below start None = false
is_below start (Some revision) = nat_lt revision start

-- a list that a token or a revision takes to a revision below the start
abbrev pub is_old_list : Setup → Verb → Event → Bool
is_old_list setup Create event = false
is_old_list setup Update event = false
is_old_list setup Patch event = false
is_old_list setup Delete event = false
is_old_list setup DeleteCollection event = false
is_old_list setup Get event = false
is_old_list setup Listing event =
    (has_filled (codes "continue") event.attrs || asks_revision (first_value (codes "resourceVersion") event.attrs)) && is_below setup.start (answered_at event)
is_old_list setup Other event = false
