-- What an event's answer says of the cluster, without the objects.
use Rattle.std.specs.Prelude.{ℕ, Bool, true, false, List, [], ◌∷◌, codes}
use Rattle.log_picture.specs.contracts.kind.AnswerKindPartialEq.TheImpl as same
use Rattle.log_picture.specs.declared.kind.AnswerKind.{AnswerKind}
use Rattle.log_picture.specs.declared.kind.AnswerKind.TheVariants as kind
use Rattle.write_groups.specs.declared.event.LogEvent.{LogEvent}
use Rattle.write_groups.specs.declared.event.Shown.{Shown}
use Rattle.write_groups.specs.declared.event.Shown.TheVariants.{Made, Removed, Opaque, Saw, SawNone, SawSome, SawOther, Listed, Free, Aside}

abbrev pub kind_of : Shown → AnswerKind
kind_of (Made item true) = kind.Created
kind_of (Made item false) = kind.Changed
kind_of (Removed key uid) = kind.Removed
kind_of (Opaque cover) = kind.Unrecorded
kind_of (Saw item) = kind.Saw
kind_of (SawNone key) = kind.NotFound
kind_of (SawSome key) = kind.AlreadyExists
kind_of (SawOther key) = kind.Conflict
kind_of (Listed listing) = kind.Listed
kind_of Free = kind.Free
kind_of Aside = kind.Aside

-- all kinds, as the page lists them
unfoldable pub kinds : List AnswerKind
kinds =
    kind.Created ∷ kind.Changed ∷ kind.Removed ∷ kind.Unrecorded ∷ kind.Saw ∷ kind.NotFound ∷ kind.AlreadyExists ∷ kind.Conflict
    ∷ kind.Listed ∷ kind.Free ∷ kind.Aside ∷ []

abbrev pub kind_words : AnswerKind → List ℕ
kind_words kind.Created = codes "write that created an object"
kind_words kind.Changed = codes "write that changed an object"
kind_words kind.Removed = codes "write that removed an object"
kind_words kind.Unrecorded = codes "unrecorded write"
kind_words kind.Saw = codes "read that shows an object"
kind_words kind.NotFound = codes "404 NotFound"
kind_words kind.AlreadyExists = codes "409 AlreadyExists"
kind_words kind.Conflict = codes "409 Conflict"
kind_words kind.Listed = codes "list"
kind_words kind.Free = codes "says nothing of any object"
kind_words kind.Aside = codes "not judged"

abbrev pub is_of : AnswerKind → LogEvent → Bool
is_of kind event = (same.ghosts).eq (kind_of event.answer) kind
