-- The pages of a chain, walked from link to link.
use Rattle.std.proofs.Common.{◌≡◌, ◌≢◌, ℕ, zero, suc, ◌+◌, ◌-◌, ◌<◌, true, false, List, [], ◌∷◌, ◌++◌, length, get_or, Option, Some, None, refl, sym, ap, subst, ◌∙◌, if◌then◌else◌, append_assoc, arith}
use Rattle.std.specs.Prelude.{is_some, option_map, option_and_then, slice_get, slice_index}
use Rattle.std.proofs.lemmas.Option.{slice_get_read}
use Rattle.page_chains.specs.declared.page.Page.{Page}
use Rattle.page_chains.specs.Chains.{next_of, chain_within}
use Rattle.page_chains.specs.Links.{LeadsTo, AreLinks}

pub begun : (o : Option (List Page)) → o ≡ option_map (λ rest. [] ++ rest) o
begun None = refl
begun (Some rest) = refl

-- a page that follows itself has no end
circle : (pages : List Page) (page : Page) → next_of pages page ≡ Some page → is_some page.token ≡ true → (most : ℕ) → chain_within most pages page ≡ None
circle pages page next goes zero = refl
circle pages page next goes (suc most) =
    ap (λ b. if b then option_map (λ rest. page ∷ rest) (option_and_then (chain_within most pages) (next_of pages page)) else Some (page ∷ [])) goes
    ∙ ap (λ o. option_map (λ rest. page ∷ rest) (option_and_then (chain_within most pages) o)) next
    ∙ ap (option_map (λ rest. page ∷ rest)) (circle pages page next goes most)

behind : (done : List Page) (page : Page) (o : Option (List Page)) → option_map (λ rest. done ++ rest) (option_map (λ rest. page ∷ rest) o) ≡ option_map (λ rest. (done ++ page ∷ []) ++ rest) o
behind done page None = refl
behind done page (Some rest) = ap Some (sym (append_assoc done (page ∷ []) rest))

-- after as many steps as there are pages
pub no_more : (pages : List Page) (done : List Page) (left here : ℕ) → left ≡ 0 → None ≡ option_map (λ rest. done ++ rest) (option_and_then (chain_within left pages) (slice_get pages here))
no_more pages done left here e = by_page (slice_get pages here) ∙ ap (λ n. option_map (λ rest. done ++ rest) (option_and_then (chain_within n pages) (slice_get pages here))) (sym e)
  where
    by_page : (o : Option Page) → None ≡ option_map (λ rest. done ++ rest) (option_and_then (chain_within 0 pages) o)
    by_page None = refl
    by_page (Some page) = refl

module _ (pages : List Page) (links : List ℕ) (h : AreLinks pages links) (all : Option (List Page)) (done : List Page) (step here : ℕ) (page : Page)
    (lt : step < length pages) (inside : here < length pages) (is : page ≡ get_or pages here page)
    (before : all ≡ option_map (λ rest. done ++ rest) (option_and_then (chain_within (length pages - step) pages) (slice_get pages here))) where
  at_page : slice_get pages here ≡ Some page
  at_page = slice_get_read pages (length pages) here page refl inside is

  unfolded : all ≡ option_map (λ rest. done ++ rest) (if is_some page.token then option_map (λ rest. page ∷ rest) (option_and_then (chain_within (length pages - (step + 1)) pages) (next_of pages page)) else Some (page ∷ []))
  unfolded =
      let one : length pages - step ≡ suc (length pages - (step + 1)) = omega arith in
      before
      ∙ ap (λ o. option_map (λ rest. done ++ rest) (option_and_then (chain_within (length pages - step) pages) o)) at_page
      ∙ ap (λ n. option_map (λ rest. done ++ rest) (chain_within n pages page)) one

  onward : is_some page.token ≡ true → all ≡ option_map (λ rest. (done ++ page ∷ []) ++ rest) (option_and_then (chain_within (length pages - (step + 1)) pages) (next_of pages page))
  onward goes =
      unfolded
      ∙ ap (λ b. option_map (λ rest. done ++ rest) (if b then option_map (λ rest. page ∷ rest) (option_and_then (chain_within (length pages - (step + 1)) pages) (next_of pages page)) else Some (page ∷ []))) goes
      ∙ behind done page (option_and_then (chain_within (length pages - (step + 1)) pages) (next_of pages page))

  pub ends : is_some page.token ≡ false → all ≡ Some (done ++ page ∷ [])
  ends stops = unfolded ∙ ap (λ b. option_map (λ rest. done ++ rest) (if b then option_map (λ rest. page ∷ rest) (option_and_then (chain_within (length pages - (step + 1)) pages) (next_of pages page)) else Some (page ∷ []))) stops

  link : LeadsTo pages here (slice_index links here) (next_of pages page)
  link = h.right here inside page at_page

  pub circles : is_some page.token ≡ true → slice_index links here ≡ here → all ≡ None
  circles goes back = onward goes ∙ by_next (next_of pages page) refl
    where
      by_next : (o : Option Page) → next_of pages page ≡ o → option_map (λ rest. (done ++ page ∷ []) ++ rest) (option_and_then (chain_within (length pages - (step + 1)) pages) o) ≡ None
      by_next None is = refl
      by_next (Some next) is =
          let there : slice_get pages (slice_index links here) ≡ Some next = subst (LeadsTo pages here (slice_index links here)) is link in
          let itself : Some next ≡ Some page = sym there ∙ ap (slice_get pages) back ∙ at_page in
          let same : next ≡ page = cc in
          ap (option_map (λ rest. (done ++ page ∷ []) ++ rest)) (ap (chain_within (length pages - (step + 1)) pages) same ∙ circle pages page (is ∙ itself) goes (length pages - (step + 1)))

  pub goes_on : is_some page.token ≡ true → slice_index links here ≢ here
      → all ≡ option_map (λ rest. (done ++ page ∷ []) ++ rest) (option_and_then (chain_within (length pages - (step + 1)) pages) (slice_get pages (slice_index links here)))
  goes_on goes apart = onward goes ∙ ap (λ o. option_map (λ rest. (done ++ page ∷ []) ++ rest) (option_and_then (chain_within (length pages - (step + 1)) pages) o)) (by_next (next_of pages page) refl)
    where
      by_next : (o : Option Page) → next_of pages page ≡ o → o ≡ slice_get pages (slice_index links here)
      by_next None is = absurd (apart (subst (LeadsTo pages here (slice_index links here)) is link))
      by_next (Some next) is = sym (subst (LeadsTo pages here (slice_index links here)) is link)
