-- The pages that can be parts of a chain make the same chains as all pages.
use Rattle.std.proofs.Common.{◌≡◌, ℕ, Bool, true, false, ◌&&◌, ◌||◌, not, List, [], ◌∷◌, length, Option, Some, None, refl, sym, ap, ◌∙◌, if◌then◌else◌}
use Rattle.std.specs.Prelude.{cond, is_some, filter, option_map}
use Rattle.std.specs.List.{filter_map, cons_option}
use Rattle.std.proofs.lemmas.Bool.{true≢false, false≢true, or_parts}
use Rattle.audit_event.specs.declared.event.Event.{Event}
use Rattle.setup_file.specs.declared.setup.Checkpoint.{Checkpoint}
use Rattle.setup_file.specs.declared.setup.Setup.{Setup}
use Rattle.answer_class.specs.Classes.{class_of}
use Rattle.answer_class.specs.declared.answer.Answer.{Answer}
use Rattle.answer_class.specs.declared.answer.Answer.TheVariants.{Made, Removed, Opaque, Saw, SawNone, SawSome, SawOther, Listed, Free, Aside}
use Rattle.page_chains.specs.declared.page.Asked.{Asked}
use Rattle.page_chains.specs.declared.page.Asked.TheVariants.{First, Next, Unclear}
use Rattle.page_chains.specs.declared.page.Page.{Page}
use Rattle.page_chains.specs.declared.page.PageKey.{PageKey}
use Rattle.page_chains.specs.Pages.{token_of, asked_of, is_first, is_selective, page_in, page_of, pages_of}
use Rattle.page_chains.specs.Parts.{is_part, part_in, part_of, parts_of}
use Rattle.page_chains.specs.Chains.{key_with, is_asked_by, asks, earliest, next_by, next_of, chain_within, checkpoint_of, chain_of, chains_in, chains_of}
use Rattle.page_chains.specs.Following.{AreAfter, IsChainOf}
use Rattle.page_chains.proofs.Members.{Each, Among, among_itself, among_kept}
use Rattle.page_chains.proofs.FollowLemmas.{same_after, chain_is}

-- a list that isn't read in pages is no part
either_way : (b : Bool) → (b || true) ≡ true
either_way true = refl
either_way false = refl

pub no_part : (event : Event) (answer : Answer) → (is_some (token_of event) || not (is_first (asked_of event.attrs))) ≡ false → None ≡ part_in (page_in event answer)
no_part event (Made key revision uid object created) e = refl
no_part event (Removed key uid) e = refl
no_part event (Opaque cover) e = refl
no_part event (Saw key revision uid object) e = refl
no_part event (SawNone key) e = refl
no_part event (SawSome key) e = refl
no_part event (SawOther key) e = refl
no_part event (Listed group resource scope revision whole items selector) e = rw e refl
no_part event Free e = refl
no_part event Aside e = refl

pub a_part : (event : Event) (answer : Answer) → (is_some (token_of event) || not (is_first (asked_of event.attrs))) ≡ true → page_in event answer ≡ part_in (page_in event answer)
a_part event (Made key revision uid object created) e = refl
a_part event (Removed key uid) e = refl
a_part event (Opaque cover) e = refl
a_part event (Saw key revision uid object) e = refl
a_part event (SawNone key) e = refl
a_part event (SawSome key) e = refl
a_part event (SawOther key) e = refl
a_part event (Listed group resource scope revision whole items selector) e = rw e refl
a_part event Free e = refl
a_part event Aside e = refl

module _ (setup : Setup) (event : Event) where
  pub no_part_of : (is_some (token_of event) || not (is_first (asked_of event.attrs))) ≡ false → None ≡ part_of setup event
  no_part_of e = by_selector (is_selective event.attrs)
    where
      by_selector : (b : Bool) → None ≡ part_in (if b then None else page_in event (class_of setup event))
      by_selector true = refl
      by_selector false = no_part event (class_of setup event) e

  pub selective_part : is_selective event.attrs ≡ true → None ≡ part_of setup event
  selective_part e = ap (λ b. part_in (if b then None else page_in event (class_of setup event))) (sym e)

  pub a_part_of : (is_some (token_of event) || not (is_first (asked_of event.attrs))) ≡ true → is_selective event.attrs ≡ false
      → page_in event (class_of setup event) ≡ part_of setup event
  a_part_of e s = a_part event (class_of setup event) e ∙ ap (λ b. part_in (if b then None else page_in event (class_of setup event))) (sym s)

parts_made : {X : Type 0} (f : X → Option Page) (xs : List X) → filter_map (λ x. part_in (f x)) xs ≡ filter is_part (filter_map f xs)
parts_made f [] = refl
parts_made f (x ∷ xs) = by_page (parts_made f xs) (f x)
  where
    by_page : filter_map (λ x. part_in (f x)) xs ≡ filter is_part (filter_map f xs) → (o : Option Page)
        → cons_option (part_in o) (filter_map (λ x. part_in (f x)) xs) ≡ filter is_part (cons_option o (filter_map f xs))
    by_page rest None = rest
    by_page rest (Some page) = by_part (is_part page)
      where
        by_part : (b : Bool) → cons_option (if b then Some page else None) (filter_map (λ x. part_in (f x)) xs) ≡ cond b (page ∷ filter is_part (filter_map f xs)) (filter is_part (filter_map f xs))
        by_part true = ap (λ l. page ∷ l) rest
        by_part false = rest

pub parts_are : (setup : Setup) (events : List Event) → parts_of setup events ≡ filter is_part (pages_of setup events)
parts_are setup events = parts_made (page_of setup) events

-- who is asked for by a token is a part
asker_is : (key : PageKey) (page : Page) (asked : Asked) → page.asked ≡ asked → is_asked_by key page asked ≡ true → is_part page ≡ true
asker_is key page First is e = absurd (false≢true e)
asker_is key page (Next token) is e = ap (λ asked. is_some page.token || not (is_first asked)) is ∙ either_way (is_some page.token)
asker_is key page Unclear is e = absurd (false≢true e)

asker : (key : PageKey) (page : Page) → asks key page ≡ true → is_part page ≡ true
asker key page e = asker_is key page page.asked refl e

kept_twice : {X : Type 0} (p q : X → Bool) → ((x : X) → p x ≡ true → q x ≡ true) → (xs : List X) → filter p (filter q xs) ≡ filter p xs
kept_twice p q implies [] = refl
kept_twice p q implies (x ∷ xs) = by_other (kept_twice p q implies xs) (q x) refl
  where
    by_test : filter p (filter q xs) ≡ filter p xs → (b : Bool) → p x ≡ b → q x ≡ false → filter p (filter q xs) ≡ cond b (x ∷ filter p xs) (filter p xs)
    by_test rest true e fails = absurd (true≢false (sym (implies x e) ∙ fails))
    by_test rest false e fails = rest

    by_other : filter p (filter q xs) ≡ filter p xs → (b : Bool) → q x ≡ b → filter p (cond b (x ∷ filter q xs) (filter q xs)) ≡ cond (p x) (x ∷ filter p xs) (filter p xs)
    by_other rest true e = ap (λ l. cond (p x) (x ∷ l) l) rest
    by_other rest false e = by_test rest (p x) refl e

module _ (pages : List Page) where
  abbrev parts : List Page
  parts = filter is_part pages

  next_by_parts : (page : Page) (token : Option (List ℕ)) → next_by parts page token ≡ next_by pages page token
  next_by_parts page None = refl
  next_by_parts page (Some token) = ap earliest (kept_twice (asks (key_with page token)) is_part (asker (key_with page token)) pages)

  next_of_parts : (page : Page) → next_of parts page ≡ next_of pages page
  next_of_parts page = next_by_parts page page.token

  after_parts : (later : List Page) (page : Page) → AreAfter pages page later → AreAfter parts page later
  after_parts [] page h = h
  after_parts (next ∷ later) page h = (next_of_parts page ∙ h.0, after_parts later next h.1)

  after_pages : (later : List Page) (page : Page) → AreAfter parts page later → AreAfter pages page later
  after_pages [] page h = h
  after_pages (next ∷ later) page h = (sym (next_of_parts page) ∙ h.0, after_pages later next h.1)

  same_chain : (page : Page) (a b : Option Checkpoint) → IsChainOf parts page a → IsChainOf pages page b → a ≡ b
  same_chain page None None h k = refl
  same_chain page None (Some found) h k = absurd (h found (record { starts = k.starts; later = k.later; after = after_parts k.later page k.after; is = k.is }))
  same_chain page (Some found) None h k = absurd (k found (record { starts = h.starts; later = h.later; after = after_pages h.later page h.after; is = h.is }))
  same_chain page (Some found) (Some other) h k =
      let one : h.later ≡ k.later = same_after pages h.later k.later page (after_pages h.later page h.after) k.after in
      ap Some (h.is ∙ ap (λ l. checkpoint_of page (page ∷ l)) one ∙ sym k.is)

  chain_of_parts : (page : Page) → Among page pages → is_part page ≡ true → chain_of parts page ≡ chain_of pages page
  chain_of_parts page among part =
      same_chain page (chain_of parts page) (chain_of pages page) (chain_is parts page (among_kept is_part pages page part among)) (chain_is pages page among)

  not_begun : (page : Page) → is_part page ≡ false → chain_of pages page ≡ None
  not_begun page apart =
      let both = or_parts (is_some page.token) (not (is_first page.asked)) apart in
      by_token (is_first page.asked) (is_some page.token) both.0
    where
      by_token : (a b : Bool) → b ≡ false → (if a && b then option_map (checkpoint_of page) (chain_within (length pages) pages page) else None) ≡ None
      by_token true true e = absurd (true≢false e)
      by_token true false e = refl
      by_token false b e = refl

  made_of_parts : (xs : List Page) → Each (λ x. Among x pages) xs → filter_map (chain_of parts) (filter is_part xs) ≡ filter_map (chain_of pages) xs
  made_of_parts [] h = refl
  made_of_parts (x ∷ xs) h = by_part (made_of_parts xs h.1) (is_part x) refl
    where
      by_part : filter_map (chain_of parts) (filter is_part xs) ≡ filter_map (chain_of pages) xs → (b : Bool) → is_part x ≡ b
          → filter_map (chain_of parts) (cond b (x ∷ filter is_part xs) (filter is_part xs)) ≡ cons_option (chain_of pages x) (filter_map (chain_of pages) xs)
      by_part rest true e = λ i. cons_option (chain_of_parts x h.0 e i) (rest i)
      by_part rest false e = rest ∙ ap (λ o. cons_option o (filter_map (chain_of pages) xs)) (sym (not_begun x e))

  pub chains_in_parts : chains_in parts ≡ chains_in pages
  chains_in_parts = made_of_parts pages (among_itself pages)

-- what is found among the parts are the chains of all pages
pub found_of_parts : (setup : Setup) (events list : List Event) (parts slice : List Page) (found : List Checkpoint)
    → found ≡ chains_in slice → slice ≡ parts → parts ≡ parts_of setup list → list ≡ events → found ≡ chains_of setup events
found_of_parts setup events list parts slice found made sliced read whole =
    made ∙ ap chains_in (sliced ∙ read ∙ ap (parts_of setup) whole ∙ parts_are setup events) ∙ chains_in_parts (pages_of setup events)
