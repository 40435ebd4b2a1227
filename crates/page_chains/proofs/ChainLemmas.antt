-- Each chain is of a tracked resource, and isn't below the start: the page after its first was asked for by a token.
use Rattle.std.proofs.Common.{◌≡◌, ◌≤◌, Bool, true, false, ◌||◌, List, [], ◌∷◌, Option, Some, None, refl, sym, ap, subst, ◌∙◌, if◌then◌else◌, codes}
use Rattle.std.specs.Prelude.{IsSome, ⊤, All, is_some, cond, filter}
use Rattle.std.specs.List.{list_any}
use Rattle.std.proofs.lemmas.Bool.{true≢false, false≢true, and_parts}
use Rattle.base_types.specs.declared.kubernetes.request.Pair.{Pair}
use Rattle.audit_event.specs.declared.event.Event.{Event}
use Rattle.setup_file.specs.Resources.{tracked_as}
use Rattle.setup_file.specs.declared.setup.Checkpoint.{Checkpoint}
use Rattle.setup_file.specs.declared.setup.Setup.{Setup}
use Rattle.answer_class.specs.Classes.{class_of}
use Rattle.answer_class.specs.Requests.{is_filled}
use Rattle.answer_class.specs.declared.answer.Answer.{Answer}
use Rattle.answer_class.specs.declared.answer.Answer.TheVariants.{Made, Removed, Opaque, Saw, SawNone, SawSome, SawOther, Listed, Free, Aside}
use Rattle.page_chains.specs.declared.page.Asked.{Asked}
use Rattle.page_chains.specs.declared.page.Asked.TheVariants.{First, Next, Unclear}
use Rattle.page_chains.specs.declared.page.Page.{Page}
use Rattle.page_chains.specs.declared.page.PageKey.{PageKey}
use Rattle.page_chains.specs.Pages.{asked_by, is_first, is_selective, page_in, page_of, pages_of}
use Rattle.page_chains.specs.Chains.{key_with, is_asked_by, begins, chain_of, chains_in, chains_of}
use Rattle.page_chains.specs.Following.{AreAfter, IsChain, IsChainOf, AreChains}
use Rattle.page_chains.proofs.ClassLemmas.{IsLikely, class_likely}
use Rattle.page_chains.proofs.FollowLemmas.{followed, chain_is}
use Rattle.page_chains.proofs.KeyLemmas.{same_means}
use Rattle.page_chains.proofs.OrderLemmas.{next_is_earliest}
use Rattle.page_chains.proofs.Members.{Each, Maybe, all_of, each_mapped, each_made, anything, Among, among_itself, holds_of}

-- the chains are those of the pages
abbrev pub IsOfPages : List Page → Checkpoint → Type 0
IsOfPages pages found = (page : Page) × Among page pages × IsChain pages page found

pub chains_are : (pages : List Page) → Each (IsOfPages pages) (chains_in pages)
chains_are pages = each_made (λ page. Among page pages) (IsOfPages pages) (chain_of pages) (λ page among. made page among (chain_of pages page) (chain_is pages page among)) pages (among_itself pages)
  where
    made : (page : Page) → Among page pages → (o : Option Checkpoint) → IsChainOf pages page o → Maybe (IsOfPages pages) o
    made page among None h = tt
    made page among (Some found) h = (page, among, h)

pub each_chain : (pages : List Page) → AreChains pages (chains_in pages)
each_chain pages = record {
  next = next_is_earliest pages;
  chain = chain_of pages;
  each = all_of (λ page. IsChainOf pages page (chain_of pages page)) pages (each_mapped (λ page. Among page pages) (λ page. IsChainOf pages page (chain_of pages page)) (chain_is pages) pages (among_itself pages));
  are = refl;
}

-- who asks for a further page has a token
asked_filled : (p : Pair → Bool) (ps : List Pair) → is_first (asked_by (filter p ps)) ≡ false → list_any p ps ≡ true
asked_filled p [] e = absurd (true≢false e)
asked_filled p (q ∷ qs) e = by_test (p q) (asked_filled p qs) e
  where
    by_test : (b : Bool) → (is_first (asked_by (filter p qs)) ≡ false → list_any p qs ≡ true) → is_first (asked_by (cond b (q ∷ filter p qs) (filter p qs))) ≡ false → (b || list_any p qs) ≡ true
    by_test true rest e = refl
    by_test false rest e = rest e

module _ (setup : Setup) where
  abbrev pub IsLikelyPage : Page → Type 0
  IsLikelyPage page = IsSome (tracked_as setup.resources page.group page.resource) × (is_first page.asked ≡ false → setup.start ≤ page.revision)

  abbrev pub IsLikelyChain : Checkpoint → Type 0
  IsLikelyChain chain = IsSome (tracked_as setup.resources chain.group chain.resource) × (setup.start ≤ chain.revision)

  page_in_likely : (event : Event) (answer : Answer) → IsLikely setup event answer → Maybe IsLikelyPage (page_in event answer)
  page_in_likely event (Made key revision uid object created) h = tt
  page_in_likely event (Removed key uid) h = tt
  page_in_likely event (Opaque cover) h = tt
  page_in_likely event (Saw key revision uid object) h = tt
  page_in_likely event (SawNone key) h = tt
  page_in_likely event (SawSome key) h = tt
  page_in_likely event (SawOther key) h = tt
  page_in_likely event (Listed group resource scope revision whole items selector) h = (h.tracked, λ further. h.late (asked_filled (is_filled (codes "continue")) event.attrs.query further))
  page_in_likely event Free h = tt
  page_in_likely event Aside h = tt

  page_likely : (event : Event) → ⊤ → Maybe IsLikelyPage (page_of setup event)
  page_likely event any = by_test (is_selective event.attrs)
    where
      by_test : (b : Bool) → Maybe IsLikelyPage (if b then None else page_in event (class_of setup event))
      by_test true = tt
      by_test false = page_in_likely event (class_of setup event) (class_likely setup event)

  pages_likely : (events : List Event) → Each IsLikelyPage (pages_of setup events)
  pages_likely events = each_made (λ _. ⊤) IsLikelyPage (page_of setup) page_likely events (anything events)

  -- a page that was asked for by a token isn't below the start
  asker_late : (key : PageKey) (page : Page) (asked : Asked) → page.asked ≡ asked → IsLikelyPage page → is_asked_by key page asked ≡ true → setup.start ≤ key.revision
  asker_late key page First is h e = absurd (false≢true e)
  asker_late key page (Next token) is h e = subst (λ (k : PageKey). setup.start ≤ k.revision) (same_means (key_with page token) key e) (h.1 (ap is_first is))
  asker_late key page Unclear is h e = absurd (false≢true e)

  first_late : (pages : List Page) → Each IsLikelyPage pages → (page : Page) → begins page ≡ true → (later : List Page) → AreAfter pages page later → setup.start ≤ page.revision
  first_late pages likely page starts [] none =
      absurd (false≢true (sym (ap is_some none) ∙ (and_parts (is_first page.asked) (is_some page.token) starts).1))
  first_late pages likely page starts (next ∷ later) after =
      let asked = followed pages IsLikelyPage page next likely after.0 in
      asker_late (key_with page asked.1.0) next next.asked refl asked.0 asked.1.2

  chain_likely : (pages : List Page) → Each IsLikelyPage pages → (found : Checkpoint) → IsOfPages pages found → IsLikelyChain found
  chain_likely pages likely found chain =
      let page = chain.0 in
      let good = holds_of IsLikelyPage pages page likely chain.1 in
      subst IsLikelyChain (sym chain.2.is) (good.0, first_late pages likely page chain.2.starts chain.2.later chain.2.after)

  pub all_likely : (events : List Event) → All IsLikelyChain (chains_of setup events)
  all_likely events =
      let pages = pages_of setup events in
      all_of IsLikelyChain (chains_in pages) (each_mapped (IsOfPages pages) IsLikelyChain (chain_likely pages (pages_likely events)) (chains_in pages) (chains_are pages))

  pub all_tracked : (events : List Event) → All (λ (chain : Checkpoint). IsSome (tracked_as setup.resources chain.group chain.resource)) (chains_of setup events)
  all_tracked events k d lt = (all_likely events k d lt).0

  pub all_late : (events : List Event) → All (λ (chain : Checkpoint). setup.start ≤ chain.revision) (chains_of setup events)
  all_late events k d lt = (all_likely events k d lt).1
