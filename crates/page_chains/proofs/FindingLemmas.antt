-- The first page that each token leads to, found one page after another.
use Rattle.std.proofs.Common.{◌≡◌, ℕ, ◌+◌, ◌<◌, Bool, true, false, List, [], ◌∷◌, ◌++◌, length, get_or, take, Option, Some, None, refl, sym, ap, subst, ◌∙◌, if◌then◌else◌}
use Rattle.std.specs.Prelude.{cond, filter, fold, option_and_then, slice_get}
use Rattle.std.specs.Option.{option_map_or}
use Rattle.std.specs.HashMap.{get}
use Rattle.std.proofs.lemmas.Bool.{true≢false}
use Rattle.std.proofs.lemmas.List.{take_more}
use Rattle.std.proofs.lemmas.Option.{slice_get_read}
use Rattle.std.proofs.lemmas.List.Elements.{filter-append}
use Rattle.page_chains.specs.declared.page.Asked.{Asked}
use Rattle.page_chains.specs.declared.page.Asked.TheVariants.{First, Next, Unclear}
use Rattle.page_chains.specs.declared.page.Page.{Page}
use Rattle.page_chains.specs.declared.page.PageKey.{PageKey}
use Rattle.page_chains.specs.Chains.{same_page_key, is_asked_by, asks, comes_before, sooner, earliest}
use Rattle.page_chains.specs.Finding.{Places, key_asked, asked_key, known, FindsFirst}
use Rattle.page_chains.proofs.KeyLemmas.{same, same_means}

fold_end : {A B : Type 0} (f : B → A → B) (z : B) (xs : List A) (x : A) → fold f z (xs ++ x ∷ []) ≡ f (fold f z xs) x
fold_end f z [] x = refl
fold_end f z (y ∷ ys) x = fold_end f (f z y) ys x

-- one page more
earliest_more : (p : Page → Bool) (pages : List Page) (place : ℕ) (page : Page) → place < length pages → page ≡ get_or pages place page
    → earliest (filter p (take (place + 1) pages)) ≡ cond (p page) (sooner (earliest (filter p (take place pages))) page) (earliest (filter p (take place pages)))
earliest_more p pages place page lt is =
    ap (λ l. earliest (filter p l)) (take_more pages place page lt ∙ ap (λ y. take place pages ++ y ∷ []) (sym is))
    ∙ ap earliest (filter-append p (take place pages) (page ∷ []))
    ∙ by_test (p page)
  where
    by_test : (b : Bool) → earliest (filter p (take place pages) ++ cond b (page ∷ []) []) ≡ cond b (sooner (earliest (filter p (take place pages))) page) (earliest (filter p (take place pages)))
    by_test true = fold_end sooner None (filter p (take place pages)) page
    by_test false = ap earliest (end (filter p (take place pages)))
      where
        end : (xs : List Page) → xs ++ [] ≡ xs
        end [] = refl
        end (x ∷ xs) = ap (λ l. x ∷ l) (end xs)

abbrev pub is_key : Option PageKey → PageKey → Bool
is_key None q = false
is_key (Some key) q = same_page_key key q

asks_by : (q : PageKey) (page : Page) (asked : Asked) → is_asked_by q page asked ≡ is_key (key_asked page asked) q
asks_by q page First = refl
asks_by q page (Next token) = refl
asks_by q page Unclear = refl

wins : (o : Option Page) (page : Page) → option_map_or (comes_before page) o true ≡ true → sooner o page ≡ Some page
wins None page e = refl
wins (Some found) page e = ap (λ b. if b then Some page else Some found) e

loses : (o : Option Page) (page : Page) → option_map_or (comes_before page) o true ≡ false → sooner o page ≡ o
loses None page e = absurd (true≢false e)
loses (Some found) page e = ap (λ b. if b then Some page else Some found) e

module _ (pages : List Page) (place : ℕ) (page : Page) (lt : place < length pages) (is : page ≡ get_or pages place page) where
  after_key : (o : Option PageKey) → asked_key page ≡ o → (q : PageKey)
      → earliest (filter (asks q) (take (place + 1) pages)) ≡ cond (is_key o q) (sooner (earliest (filter (asks q) (take place pages))) page) (earliest (filter (asks q) (take place pages)))
  after_key o asked q =
      earliest_more (asks q) pages place page lt is
      ∙ ap (λ b. cond b (sooner (earliest (filter (asks q) (take place pages))) page) (earliest (filter (asks q) (take place pages)))) (asks_by q page page.asked ∙ ap (λ o. is_key o q) asked)

  -- a page that no token led to
  pub unasked : (places : Places) → None ≡ asked_key page → FindsFirst same pages (take place pages) places → FindsFirst same pages (take (place + 1) pages) places
  unasked places asked before q = before q ∙ sym (after_key None (sym asked) q)

  -- a page that isn't the first
  pub later : (places : Places) (key : PageKey) → Some key ≡ asked_key page → option_map_or (comes_before page) (known same pages places key) true ≡ false
      → FindsFirst same pages (take place pages) places → FindsFirst same pages (take (place + 1) pages) places
  later places key asked loser before q = by_key (same_page_key key q) refl ∙ sym (after_key (Some key) (sym asked) q)
    where
      by_key : (b : Bool) → same_page_key key q ≡ b → known same pages places q ≡ cond b (sooner (earliest (filter (asks q) (take place pages))) page) (earliest (filter (asks q) (take place pages)))
      by_key true e =
          let found = subst (λ k. option_map_or (comes_before page) (known same pages places k) true ≡ false) (same_means key q e) loser in
          sym (loses (known same pages places q) page found) ∙ ap (λ o. sooner o page) (before q)
      by_key false e = before q

  -- a page that is the first so far
  pub first : (places after : Places) (key : PageKey) → Some key ≡ asked_key page → option_map_or (comes_before page) (known same pages places key) true ≡ true
      → ((q : PageKey) → get same after q ≡ cond (same key q) (Some place) (get same places q))
      → FindsFirst same pages (take place pages) places → FindsFirst same pages (take (place + 1) pages) after
  first places after key asked winner put before q = ap (option_and_then (slice_get pages)) (put q) ∙ by_key (same_page_key key q) refl ∙ sym (after_key (Some key) (sym asked) q)
    where
      by_key : (b : Bool) → same_page_key key q ≡ b
          → option_and_then (slice_get pages) (cond b (Some place) (get same places q)) ≡ cond b (sooner (earliest (filter (asks q) (take place pages))) page) (earliest (filter (asks q) (take place pages)))
      by_key true e =
          let found = subst (λ k. option_map_or (comes_before page) (known same pages places k) true ≡ true) (same_means key q e) winner in
          slice_get_read pages (length pages) place page refl lt is ∙ sym (wins (known same pages places q) page found) ∙ ap (λ o. sooner o page) (before q)
      by_key false e = before q
