-- Where many steps lead to, and what that tells of chains.
use Rattle.std.proofs.Common.{◌≡◌, ℕ, zero, suc, ◌+◌, ◌/◌, ◌%◌, ◌<◌, true, false, List, [], ◌∷◌, length, get_or, Option, Some, None, refl, sym, ap, subst, ◌∙◌, arith}
use Rattle.std.specs.Prelude.{All, map, is_some, option_map, option_and_then, slice_get, slice_index}
use Rattle.std.proofs.lemmas.Bool.{false≢true}
use Rattle.page_chains.specs.declared.page.Page.{Page}
use Rattle.page_chains.specs.Chains.{next_by, next_of, chain_within}
use Rattle.page_chains.specs.Links.{LeadsTo, AreLinks, stepped}

stuck : (links : List ℕ) (steps from : ℕ) → slice_index links from ≡ from → stepped links steps from ≡ from
stuck links zero from here = refl
stuck links (suc steps) from here = ap (stepped links steps) here ∙ stuck links steps from here

pub stepped-add : (links : List ℕ) (a b from : ℕ) → stepped links (a + b) from ≡ stepped links b (stepped links a from)
stepped-add links zero b from = let e : 0 + b ≡ b = omega arith in ap (λ n. stepped links n from) e
stepped-add links (suc a) b from = let e : suc a + b ≡ suc (a + b) = omega arith in ap (λ n. stepped links n from) e ∙ stepped-add links a b (slice_index links from)

-- twice as many steps are as many steps of two
pub stepped-double : (links twice : List ℕ) (within : (from : ℕ) → from < length links → slice_index links from < length links)
    → ((from : ℕ) → from < length links → slice_index twice from ≡ slice_index links (slice_index links from))
    → (steps from : ℕ) → from < length links → stepped twice steps from ≡ stepped links (steps + steps) from
stepped-double links twice within double zero from lt = refl
stepped-double links twice within double (suc steps) from lt =
    let e : suc steps + suc steps ≡ suc (suc (steps + steps)) = omega arith in
    let there = within from lt in
    ap (stepped twice steps) (double from lt) ∙ stepped-double links twice within double steps (slice_index links (slice_index links from)) (within (slice_index links from) there) ∙ sym (ap (λ n. stepped links n from) e)

none_left : (pages : List Page) (page : Page) → page.token ≡ None → next_of pages page ≡ None
none_left pages page none = ap (next_by pages page) none

bare : (pages : List Page) (o : Option Page) → option_and_then (chain_within 0 pages) o ≡ None
bare pages None = refl
bare pages (Some page) = refl

-- where the last of many steps leads to a page with a token, no chain of so many pages begins
module _ (pages : List Page) (links : List ℕ) (h : AreLinks pages links) where
  within : (from : ℕ) → from < length pages → slice_index links from < length pages
  within from lt = h.within from 0 (let e = h.each in omega arith)

  pub no_end : (steps from : ℕ) (page last : Page) → from < length pages → slice_get pages from ≡ Some page
      → slice_get pages (stepped links steps from) ≡ Some last → is_some last.token ≡ true → chain_within (suc steps) pages page ≡ None
  no_end zero from page last lt here there goes =
      let same : page ≡ last = let e : Some page ≡ Some last = sym here ∙ there in cc in
      let goes' : is_some page.token ≡ true = subst (λ (p : Page). is_some p.token ≡ true) (sym same) goes in
      rw goes' (ap (option_map (λ rest. page ∷ rest)) (bare pages (next_of pages page)))
  no_end (suc steps) from page last lt here there goes =
      by_token (λ next to. no_end steps (slice_index links from) next last (within from lt) to there goes) page.token refl
    where
      link : LeadsTo pages from (slice_index links from) (next_of pages page)
      link = h.right from lt page here

      by_token : ((next : Page) → slice_get pages (slice_index links from) ≡ Some next → chain_within (suc steps) pages next ≡ None)
          → (token : Option (List ℕ)) → page.token ≡ token → chain_within (suc (suc steps)) pages page ≡ None
      by_token onward None none =
          let here' : slice_index links from ≡ from = subst (LeadsTo pages from (slice_index links from)) (none_left pages page none) link in
          let back = stuck links (suc steps) from here' in
          let same : Some page ≡ Some last = sym here ∙ ap (slice_get pages) (sym back) ∙ there in
          let ended : is_some last.token ≡ false = let e : page ≡ last = cc in ap (λ (p : Page). is_some p.token) (sym e) ∙ ap is_some none in
          absurd (false≢true (sym ended ∙ goes))
      by_token onward (Some token) some = rw (ap is_some some) (ap (option_map (λ rest. page ∷ rest)) (by_next (next_of pages page) refl))
        where
          by_next : (o : Option Page) → next_of pages page ≡ o → option_and_then (chain_within (suc steps) pages) o ≡ None
          by_next None is = refl
          by_next (Some next) is = onward next (subst (LeadsTo pages from (slice_index links from)) is link)

-- a list of places is led on from
mapped_at : (f : ℕ → ℕ) (xs : List ℕ) (i d e : ℕ) → i < length xs → get_or (map f xs) i d ≡ f (get_or xs i e)
mapped_at f [] i d e lt = absurd (omega arith)
mapped_at f (x ∷ xs) zero d e lt = refl
mapped_at f (x ∷ xs) (suc i) d e lt = mapped_at f xs i d e (omega arith)

length_mapped : (f : ℕ → ℕ) (xs : List ℕ) → length (map f xs) ≡ length xs
length_mapped f [] = refl
length_mapped f (x ∷ xs) = ap suc (length_mapped f xs)

-- so many steps are left from where the places were led to, by strides that are as long as the steps
pub record AreUnderWay (links : List ℕ) (steps : ℕ) (reached stride : List ℕ) (left : ℕ) : Type 0 where
  pub each : length reached ≡ length links
  pub strides : length stride ≡ length links
  pub within : All (λ to. to < length links) reached
  pub strides_within : All (λ to. to < length links) stride
  pub right : (from : ℕ) → from < length links → stepped stride left (slice_index reached from) ≡ stepped links steps from

module _ (links : List ℕ) (steps : ℕ) (reached stride : List ℕ) (left : ℕ) (h : AreUnderWay links steps reached stride left) where
  led_within : (places : List ℕ) → All (λ to. to < length links) places → All (λ to. to < length links) (map (λ to. slice_index stride to) places)
  led_within places inside k d lt =
      let here : k < length places = let e = length_mapped (λ to. slice_index stride to) places in omega arith in
      let there : get_or places k 0 < length stride = let p = inside k 0 here in let e = h.strides in omega arith in
      subst (λ n. n < length links) (sym (mapped_at (λ to. slice_index stride to) places k d 0 here)) (h.strides_within (get_or places k 0) 0 there)

  module _ (doubled : List ℕ) (made : doubled ≡ map (λ to. slice_index stride to) stride) where
    inside : (from : ℕ) → from < length stride → slice_index stride from < length stride
    inside from lt = let p = h.strides_within from 0 (let e = h.strides in omega arith) in let e = h.strides in omega arith

    twice : (count from : ℕ) → from < length stride → stepped doubled count from ≡ stepped stride (count + count) from
    twice = stepped-double stride doubled inside (λ from lt. ap (λ l. slice_index l from) made ∙ mapped_at (λ to. slice_index stride to) stride from 0 0 lt)

    doubled_each : length doubled ≡ length links
    doubled_each = ap length made ∙ length_mapped (λ to. slice_index stride to) stride ∙ h.strides

    doubled_within : All (λ to. to < length links) doubled
    doubled_within = subst (All (λ to. to < length links)) (sym made) (led_within stride h.strides_within)

    reached_inside : (from : ℕ) → from < length links → slice_index reached from < length stride
    reached_inside from lt = let p = h.within from 0 (let e = h.each in omega arith) in let e = h.strides in omega arith

    pub even : (left % 2 ≡ 1 → ⊥) → AreUnderWay links steps reached doubled (left / 2)
    even two = record {
      each = h.each;
      strides = doubled_each;
      within = h.within;
      strides_within = doubled_within;
      right = λ from lt.
          let whole : left / 2 + left / 2 ≡ left = omega arith in
          twice (left / 2) (slice_index reached from) (reached_inside from lt)
          ∙ ap (λ n. stepped stride n (slice_index reached from)) whole
          ∙ h.right from lt;
    }

    pub odd : (later : List ℕ) → later ≡ map (λ to. slice_index stride to) reached → left % 2 ≡ 1 → AreUnderWay links steps later doubled (left / 2)
    odd later moved one = record {
      each = ap length moved ∙ length_mapped (λ to. slice_index stride to) reached ∙ h.each;
      strides = doubled_each;
      within = subst (All (λ to. to < length links)) (sym moved) (led_within reached h.within);
      strides_within = doubled_within;
      right = λ from lt.
          let here : from < length reached = let e = h.each in omega arith in
          let whole : suc (left / 2 + left / 2) ≡ left = omega arith in
          ap (λ l. stepped doubled (left / 2) (slice_index l from)) moved
          ∙ ap (stepped doubled (left / 2)) (mapped_at (λ to. slice_index stride to) reached from 0 0 here)
          ∙ twice (left / 2) (slice_index stride (slice_index reached from)) (inside (slice_index reached from) (reached_inside from lt))
          ∙ ap (λ n. stepped stride n (slice_index reached from)) whole
          ∙ h.right from lt;
    }
