-- What a setup and a log tell has one list of changed objects.
use Rattle.std.proofs.Common.{◌≡◌, ◌⊎◌, inl, inr, List, [], ◌∷◌, Some, AllPairs, Any, Contains, refl, sym, ◌∙◌, subst, ap, ap₂, arith}
use Rattle.std.specs.Ordering.{ordering_reverse}
use Rattle.std.specs.Prelude.{IsSome}
use Rattle.std.specs.declared.cmp.Ordering.TheVariants.{Less}
use Rattle.std.proofs.lemmas.Option.{same_Some}
use Rattle.base_types.specs.declared.kubernetes.key.ObjectKey.{ObjectKey}
use Rattle.clouds.proofs.Adding.{key_order_total}
use Rattle.clouds.specs.Kept.{key_order}
use Rattle.history_model.proofs.Members.{all_at, here, in_cons, not_in_none, pairs_head, pairs_tail, there}
use Rattle.log_picture.specs.Changes.{AreChanges, IsListedBefore, tally, tally_in}
use Rattle.log_picture.specs.Page.{OnePage, log_page_text}
use Rattle.log_picture.specs.declared.changed.Changed.{Changed}
use Rattle.object_past.specs.declared.version.Version.{Version}

keys_not_both : (a b : ObjectKey) → key_order a b ≡ Less → key_order b a ≡ Less → ⊥
keys_not_both a b l m = let other : key_order a b ≡ ordering_reverse Less = key_order_total.antisymm a b ∙ ap ordering_reverse m in cc (l, other)

not_both : (a b : Changed) → IsListedBefore a b → IsListedBefore b a → ⊥
not_both a b (inl l) (inl m) = omega (arith, l, m)
not_both a b (inl l) (inr m) = let e = m.0 in omega (arith, l, e)
not_both a b (inr l) (inl m) = let e = l.0 in omega (arith, m, e)
not_both a b (inr l) (inr m) = keys_not_both a.key b.key l.1 m.1

-- two lists in one order with the same members
in_one_order : (xs ys : List Changed) → AllPairs IsListedBefore xs → AllPairs IsListedBefore ys → ((c : Changed) → Contains xs c → Contains ys c) → ((c : Changed) → Contains ys c → Contains xs c) → xs ≡ ys
in_one_order [] [] p q f g = refl
in_one_order [] (y ∷ ys) p q f g = absurd (not_in_none (g y (here y ys)))
in_one_order (x ∷ xs) [] p q f g = absurd (not_in_none (f x (here x xs)))
in_one_order (x ∷ xs) (y ∷ ys) p q f g = ap₂ (λ c l. c ∷ l) heads (in_one_order xs ys (pairs_tail IsListedBefore x xs p) (pairs_tail IsListedBefore y ys q) onto back)
  where
    behind_x : (c : Changed) → Contains xs c → IsListedBefore x c
    behind_x c d = all_at (IsListedBefore x) xs c (pairs_head IsListedBefore x xs p) d

    behind_y : (c : Changed) → Contains ys c → IsListedBefore y c
    behind_y c d = all_at (IsListedBefore y) ys c (pairs_head IsListedBefore y ys q) d

    heads : x ≡ y
    heads = go (in_cons y ys x (f x (here x xs))) (in_cons x xs y (g y (here y ys)))
      where
        go : (y ≡ x) ⊎ Contains ys x → (x ≡ y) ⊎ Contains xs y → x ≡ y
        go (inl e) other = sym e
        go (inr d) (inl e) = e
        go (inr d) (inr e) = absurd (not_both x y (behind_x y e) (behind_y x d))

    onto : (c : Changed) → Contains xs c → Contains ys c
    onto c d = go (in_cons y ys c (f c (there x c xs d)))
      where
        go : (y ≡ c) ⊎ Contains ys c → Contains ys c
        go (inl e) = absurd (let l = subst (IsListedBefore x) (sym (heads ∙ e)) (behind_x c d) in not_both x x l l)
        go (inr found) = found

    back : (c : Changed) → Contains ys c → Contains xs c
    back c d = go (in_cons x xs c (g c (there y c ys d)))
      where
        go : (x ≡ c) ⊎ Contains xs c → Contains xs c
        go (inl e) = absurd (let l = subst (IsListedBefore y) (sym (sym heads ∙ e)) (behind_y c d) in not_both y y l l)
        go (inr found) = found

module _ (versions : List Version) where
  -- two of one key
  same_change : (a b : Changed) → tally versions a.key ≡ Some (tally_in a) → tally versions b.key ≡ Some (tally_in b) → b.key ≡ a.key → b ≡ a
  same_change a b p q e =
      let tallies = same_Some (tally_in b) (tally_in a) (sym q ∙ ap (tally versions) e ∙ p) in
      λ i. record { count = record { 0 = (tallies i).count }; key = e i; first = (tallies i).first; last = (tallies i).last }

  among_both : (xs ys : List Changed) → AreChanges versions xs → AreChanges versions ys → (c : Changed) → Contains xs c → Contains ys c
  among_both xs ys p q c d = go (q.whole c.key (subst IsSome (sym told) refl))
    where
      told : tally versions c.key ≡ Some (tally_in c)
      told = all_at (λ (c : Changed). tally versions c.key ≡ Some (tally_in c)) xs c p.each d

      go : Any (λ (b : Changed). b.key ≡ c.key) ys → Contains ys c
      go (k, b, within, at, e) =
          subst (Contains ys) (same_change c b told (all_at (λ (c : Changed). tally versions c.key ≡ Some (tally_in c)) ys b q.each (k, within, at)) e) (k, within, at)

  pub one_list : (xs ys : List Changed) → AreChanges versions xs → AreChanges versions ys → xs ≡ ys
  one_list xs ys p q = in_one_order xs ys p.order q.order (among_both xs ys p q) (among_both ys xs q p)

pub one_page : OnePage
one_page known lines page other p q =
    p.text ∙ ap (log_page_text known lines) (one_list known.versions p.changes q.changes p.changed q.changed) ∙ sym q.text
