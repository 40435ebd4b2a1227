-- Each chain of sound events is a list that isn't older than the log, with trees that can be read.
use Rattle.std.proofs.Common.{◌≡◌, Bool, true, false, List, ◌∷◌, Option, Some, None, refl, sym, subst, if◌then◌else◌, codes}
use Rattle.std.specs.Prelude.{IsSome, All}
use Rattle.base_types.specs.Parts.{member_of}
use Rattle.base_types.specs.Values.{InRange}
use Rattle.audit_event.specs.Bodies.{kept}
use Rattle.audit_event.specs.Events.{IsSound}
use Rattle.audit_event.specs.declared.event.Event.{Event}
use Rattle.setup_file.specs.Lists.{objects_in, list_of}
use Rattle.setup_file.specs.Objects.{object_of}
use Rattle.setup_file.specs.Resources.{tracked_as}
use Rattle.setup_file.specs.Sound.{AreInRange, IsLaterList}
use Rattle.setup_file.specs.declared.setup.Checkpoint.{Checkpoint}
use Rattle.setup_file.specs.declared.setup.Setup.{Setup}
use Rattle.setup_file.specs.declared.setup.SnapshotObject.{SnapshotObject}
use Rattle.setup_file.specs.declared.setup.Tracked.{Tracked}
use Rattle.base_types.proofs.Found.{found_both}
use Rattle.setup_file.proofs.Gathered.{gathered_all}
use Rattle.setup_file.proofs.InRange.{member_in_range}
use Rattle.answer_class.specs.Classes.{class_of}
use Rattle.answer_class.specs.declared.answer.Answer.{Answer}
use Rattle.answer_class.specs.declared.answer.Answer.TheVariants.{Made, Removed, Opaque, Saw, SawNone, SawSome, SawOther, Listed, Free, Aside}
use Rattle.audit_event.proofs.BodyLemmas.{kept_in_range}
use Rattle.page_chains.specs.declared.page.Page.{Page}
use Rattle.page_chains.specs.Pages.{is_selective, page_in, page_of, pages_of}
use Rattle.page_chains.specs.Chains.{chains_in, chains_of}
use Rattle.page_chains.proofs.ChainLemmas.{IsOfPages, chains_are, IsLikelyChain, all_likely}
use Rattle.page_chains.proofs.ClassLemmas.{AreAnswered, IsLikely, class_likely}
use Rattle.page_chains.proofs.FollowLemmas.{each_after}
use Rattle.page_chains.proofs.ListLemmas.{list_is_read}
use Rattle.page_chains.proofs.Members.{Each, Maybe, all_of, each_of, each_mapped, each_flat, each_made, holds_of}
use Rattle.setup_file.proofs.SoundLists.{object_in_range, trees_in_range}

abbrev IsReadable : SnapshotObject → Type 0
IsReadable object = InRange object.tree

abbrev IsReadablePage : Page → Type 0
IsReadablePage page = Each IsReadable page.items

-- the items of an answer
answered_in_range : (event : Event) (items : List SnapshotObject) → IsSound event → AreAnswered event items → AreInRange items
answered_in_range event items sound h =
    let name = event.attrs.name in
    let namespace = event.attrs.namespace in
    let body = found_both (kept event.response) (list_of h.0 name namespace) h.1 h.2 in
    let range = kept_in_range event.response body.0 sound.response body.1 in
    let read = list_is_read h.0 name namespace body.0 h.1 body.2 in
    let inside = trees_in_range (member_of (codes "items") body.0) read.trees (λ tree. member_in_range (codes "items") body.0 tree range) read.listed in
    subst AreInRange (sym h.3)
    (gathered_all (object_of h.0 name namespace) (objects_in h.0 name namespace) refl (λ tree trees. refl) InRange IsReadable (object_in_range h.0 name namespace) read.trees h.1.items inside read.objects)

module _ (setup : Setup) where
  page_in_readable : (event : Event) (answer : Answer) → IsSound event → IsLikely setup event answer → Maybe IsReadablePage (page_in event answer)
  page_in_readable event (Made key revision uid object created) sound h = tt
  page_in_readable event (Removed key uid) sound h = tt
  page_in_readable event (Opaque cover) sound h = tt
  page_in_readable event (Saw key revision uid object) sound h = tt
  page_in_readable event (SawNone key) sound h = tt
  page_in_readable event (SawSome key) sound h = tt
  page_in_readable event (SawOther key) sound h = tt
  page_in_readable event (Listed group resource scope revision whole items selector) sound h = each_of IsReadable items (answered_in_range event items sound h.answered)
  page_in_readable event Free sound h = tt
  page_in_readable event Aside sound h = tt

  page_readable : (event : Event) → IsSound event → Maybe IsReadablePage (page_of setup event)
  page_readable event sound = by_test (is_selective event.attrs)
    where
      by_test : (b : Bool) → Maybe IsReadablePage (if b then None else page_in event (class_of setup event))
      by_test true = tt
      by_test false = page_in_readable event (class_of setup event) sound (class_likely setup event)

  pages_readable : (events : List Event) → All IsSound events → Each IsReadablePage (pages_of setup events)
  pages_readable events sound = each_made IsSound IsReadablePage (page_of setup) page_readable events (each_of IsSound events sound)

  -- the items of all pages of a chain
  chain_readable : (pages : List Page) → Each IsReadablePage pages → (found : Checkpoint) → IsOfPages pages found → Each IsReadable found.items
  chain_readable pages readable found chain =
      let page = chain.0 in
      let later = chain.2.later in
      subst (λ (c : Checkpoint). Each IsReadable c.items) (sym chain.2.is)
      (each_flat IsReadable (λ (p : Page). p.items) (page ∷ later)
      (holds_of IsReadablePage pages page readable chain.1, each_after pages IsReadablePage readable later page chain.2.after))

  all_readable : (events : List Event) → All IsSound events → All (λ (found : Checkpoint). Each IsReadable found.items) (chains_of setup events)
  all_readable events sound =
      let pages = pages_of setup events in
      all_of (λ (found : Checkpoint). Each IsReadable found.items) (chains_in pages)
      (each_mapped (IsOfPages pages) (λ (found : Checkpoint). Each IsReadable found.items) (chain_readable pages (pages_readable events sound)) (chains_in pages) (chains_are pages))

  there : (o : Option Tracked) → IsSome o → (found : Tracked) × (o ≡ Some found)
  there None h = absurd (cc)
  there (Some tracked) h = (tracked, refl)

  later_list : (found : Checkpoint) → IsLikelyChain setup found → Each IsReadable found.items → IsLaterList setup.start setup.resources found
  later_list found likely readable = record {
    tracked = there (tracked_as setup.resources found.group found.resource) likely.0;
    later = likely.1;
    trees = all_of IsReadable found.items readable;
  }

  pub all_later : (events : List Event) → All IsSound events → All (IsLaterList setup.start setup.resources) (chains_of setup events)
  all_later events sound k d lt = later_list _ (all_likely setup events k d lt) (all_readable events sound k d lt)
