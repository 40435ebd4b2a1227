-- Where in the history a read lets its answer be (Kubernetes API concepts, "Resource versions", "Semantics for get and
-- list").
use Rattle.std.specs.Prelude.{ℕ, ◌&&◌, ◌||◌, Bool, not, List, Option, Some, None, bytes_eq, codes, if◌then◌else◌}
use Rattle.base_types.specs.declared.kubernetes.request.RequestAttrs.{RequestAttrs}
use Rattle.base_types.specs.Revisions.{revision_of}
use Rattle.answer_class.specs.Requests.{has_filled, first_value}
use Rattle.audit_event.specs.Members.{is_text}
use Rattle.write_groups.specs.declared.event.Reading.{Reading}
use Rattle.write_groups.specs.declared.event.Reading.TheVariants.{MostRecent, AnyVersion, NotOlderThan, Exactly}

abbrev pub is_list : RequestAttrs → Bool
is_list attrs = bytes_eq attrs.verb (codes "list")

abbrev pub is_read : RequestAttrs → Bool
is_read attrs = bytes_eq attrs.verb (codes "get") || is_list attrs

-- any version that the server has at hand, or a list that goes on where another one ended
abbrev pub takes_any : RequestAttrs → Bool
takes_any attrs = is_text (codes "0") (first_value (codes "resourceVersion") attrs) || (is_list attrs && has_filled (codes "continue") attrs)

abbrev pub wants_exactly : RequestAttrs → Bool
wants_exactly attrs = is_list attrs && is_text (codes "Exact") (first_value (codes "resourceVersionMatch") attrs)

abbrev pub reading_at : RequestAttrs → ℕ → Reading
reading_at attrs revision = if wants_exactly attrs then Exactly revision else NotOlderThan revision

abbrev pub reading_by : RequestAttrs → Option ℕ → Reading
reading_by attrs None = MostRecent
reading_by attrs (Some revision) = reading_at attrs revision

-- a text that is no revision asks for nothing
abbrev pub reading_from : RequestAttrs → Option (List ℕ) → Reading
reading_from attrs None = MostRecent
reading_from attrs (Some text) = reading_by attrs (revision_of text)

-- of members that come twice the first counts
abbrev pub reading_of : RequestAttrs → Reading
reading_of attrs =
    if not (is_read attrs) then MostRecent
    else (if takes_any attrs then AnyVersion
    else reading_from attrs (first_value (codes "resourceVersion") attrs))
