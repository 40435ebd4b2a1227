-- What an event's answer shows, and what its request asks of the object before.
use Rattle.std.specs.Prelude.{ℕ, true, false, Bool, List, [], ◌∷◌, ◌++◌, Option, Some, None, codes, length}
use Rattle.markup.specs.Pieces.{fixed, number, told, shown}
use Rattle.write_groups.specs.declared.event.Item.{Item}
use Rattle.write_groups.specs.declared.event.Listing.{Listing}
use Rattle.write_groups.specs.declared.event.LogEvent.{LogEvent}
use Rattle.write_groups.specs.declared.event.Shown.{Shown}
use Rattle.write_groups.specs.declared.event.Shown.TheVariants.{Made, Removed, Opaque, Saw, SawNone, SawSome, SawOther, Listed, Free, Aside}

-- the object that an answer holds
unfoldable pub item_text : Item → List ℕ
item_text item = shown (
    fixed (codes "<dt>Shows</dt><dd>its object at revision ") ∷ number item.revision
    ∷ fixed (codes ", UID <code>") ∷ told item.uid ∷ fixed (codes "</code></dd>\n") ∷ [])

unfoldable pub removed_text : List ℕ → List ℕ
removed_text uid = shown (fixed (codes "<dt>Shows</dt><dd>that it removed the object of UID <code>") ∷ told uid ∷ fixed (codes "</code></dd>\n") ∷ [])

abbrev pub whole_words : Bool → List ℕ
whole_words true = codes ", which are all"
whole_words false = codes ", and maybe not all"

unfoldable pub listing_text : Listing → List ℕ
listing_text listing = shown (
    fixed (codes "<dt>Shows</dt><dd>a list at revision ") ∷ number listing.revision
    ∷ fixed (codes ", of ") ∷ number (length listing.items)
    ∷ fixed (codes " items") ∷ fixed (whole_words listing.whole) ∷ fixed (codes "</dd>\n") ∷ [])

-- what the program says of an answer that holds nothing
abbrev pub words_text : List ℕ → List ℕ
words_text words = shown (fixed (codes "<dt>Shows</dt><dd>") ∷ fixed words ∷ fixed (codes "</dd>\n") ∷ [])

abbrev pub answer_text : Shown → List ℕ
answer_text (Made item created) = item_text item
answer_text (Removed key uid) = removed_text uid
answer_text (Opaque cover) = words_text (codes "a write, and not what it left")
answer_text (Saw item) = item_text item
answer_text (SawNone key) = words_text (codes "that its object was absent")
answer_text (SawSome key) = words_text (codes "that its object was there")
answer_text (SawOther key) = words_text (codes "that its object didn't meet the preconditions")
answer_text (Listed listing) = listing_text listing
answer_text Free = words_text (codes "nothing of any object")
answer_text Aside = words_text (codes "nothing: the answer isn't judged")

-- a precondition on the object's revision
unfoldable pub wanted_revision : Option ℕ → List ℕ
wanted_revision None = []
wanted_revision (Some revision) = shown (fixed (codes "<dt>Precondition</dt><dd>revision ") ∷ number revision ∷ fixed (codes "</dd>\n") ∷ [])

-- one on its UID
unfoldable pub wanted_uid : Option (List ℕ) → List ℕ
wanted_uid None = []
wanted_uid (Some uid) = shown (fixed (codes "<dt>Precondition</dt><dd>UID <code>") ∷ told uid ∷ fixed (codes "</code></dd>\n") ∷ [])

unfoldable pub showing_text : Option LogEvent → List ℕ
showing_text None = []
showing_text (Some event) =
    wanted_revision event.preconditions.revision
    ++ (wanted_uid event.preconditions.uid
    ++ answer_text event.answer)
