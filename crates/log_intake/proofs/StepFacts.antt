-- Steps in order, one list behind another.
use Rattle.std.proofs.Common.{◌≡◌, inl, inr, List, [], ◌∷◌, ◌++◌, Result, Ok, Err, refl, sym, ◌∙◌, subst}
use Rattle.log_intake.specs.Steps.{InOrder}

module _ {State Item Stop : Type 0} (Step : State → Item → Result State Stop → Type 0) where
  pub in_order_then : (a b : State) (xs ys : List Item) (found : Result State Stop) → InOrder Step a xs (Ok b) → InOrder Step b ys found → InOrder Step a (xs ++ ys) found
  in_order_then a b [] ys found first second = let same : b ≡ a = cc in subst (λ s. InOrder Step s ys found) same second
  in_order_then a b (x ∷ xs) ys found (inl (next, step, rest)) second = inl (next, step, in_order_then next b xs ys found rest second)
  in_order_then a b (x ∷ xs) ys found (inr (stop, step, is)) second = absurd (let no : Ok b ≡ Err stop = is in cc)

  -- the steps of a front come first
  pub in_order_parts : (a c : State) (xs ys : List Item) → InOrder Step a (xs ++ ys) (Ok c) → (b : State) × InOrder Step a xs (Ok b) × InOrder Step b ys (Ok c)
  in_order_parts a c [] ys taken = (a, refl, taken)
  in_order_parts a c (x ∷ xs) ys (inl (next, step, rest)) =
      let parts = in_order_parts next c xs ys rest in
      (parts.0, inl (next, step, parts.1), parts.2)
  in_order_parts a c (x ∷ xs) ys (inr (stop, step, is)) = absurd (let no : Ok c ≡ Err stop = is in cc)

  -- what is refused is refused whatever comes
  pub in_order_refused : (a : State) (xs ys : List Item) (stop : Stop) → InOrder Step a xs (Err stop) → InOrder Step a (xs ++ ys) (Err stop)
  in_order_refused a [] ys stop is = absurd (let no : Err stop ≡ Ok a = is in cc)
  in_order_refused a (x ∷ xs) ys stop (inl (next, step, rest)) = inl (next, step, in_order_refused next xs ys stop rest)
  in_order_refused a (x ∷ xs) ys stop (inr (here, step, is)) = inr (here, step, is)

  pub in_order_push : (a b c : State) (xs : List Item) (x : Item) → InOrder Step a xs (Ok b) → Step b x (Ok c) → InOrder Step a (xs ++ x ∷ []) (Ok c)
  in_order_push a b c xs x first step = in_order_then a b xs (x ∷ []) (Ok c) first (inl (c, step, refl))

  pub in_order_stopped : (a b : State) (xs ys : List Item) (x : Item) (stop : Stop) → InOrder Step a xs (Ok b) → Step b x (Err stop) → InOrder Step a (xs ++ x ∷ ys) (Err stop)
  in_order_stopped a b xs ys x stop first step = in_order_then a b xs (x ∷ ys) (Err stop) first (inr (stop, step, refl))

  -- what steps keep and what they give is one, where each step's is
  pub in_order_once : (Holds : State → Type 0) → ((s t : State) (x : Item) → Holds s → Step s x (Ok t) → Holds t)
      → ((s : State) (x : Item) (a b : Result State Stop) → Holds s → Step s x a → Step s x b → a ≡ b)
      → (s : State) (xs : List Item) (a b : Result State Stop) → Holds s → InOrder Step s xs a → InOrder Step s xs b → a ≡ b
  in_order_once Holds keeps once s [] a b holds x y = x ∙ sym y
  in_order_once Holds keeps once s (x ∷ xs) a b holds (inl (t, step, rest)) (inl (u, step', rest')) =
      let same : u ≡ t = (let e = once s x (Ok u) (Ok t) holds step' step in cc) in
      in_order_once Holds keeps once t xs a b (keeps s t x holds step) rest (subst (λ v. InOrder Step v xs b) same rest')
  in_order_once Holds keeps once s (x ∷ xs) a b holds (inl (t, step, rest)) (inr (stop, step', is)) = absurd (let no = once s x (Ok t) (Err stop) holds step step' in cc)
  in_order_once Holds keeps once s (x ∷ xs) a b holds (inr (stop, step, is)) (inl (t, step', rest)) = absurd (let no = once s x (Ok t) (Err stop) holds step' step in cc)
  in_order_once Holds keeps once s (x ∷ xs) a b holds (inr (stop, step, is)) (inr (other, step', is')) =
      let same = once s x (Err stop) (Err other) holds step step' in is ∙ same ∙ sym is'

  pub in_order_keeps : (Holds : State → Type 0) → ((s t : State) (x : Item) → Holds s → Step s x (Ok t) → Holds t) → (s t : State) (xs : List Item) → Holds s → InOrder Step s xs (Ok t) → Holds t
  in_order_keeps Holds keeps s t [] holds is = let same : s ≡ t = (let e : Ok t ≡ Ok s = is in cc) in subst Holds same holds
  in_order_keeps Holds keeps s t (x ∷ xs) holds (inl (next, step, rest)) = in_order_keeps Holds keeps next t xs (keeps s next x holds step) rest
  in_order_keeps Holds keeps s t (x ∷ xs) holds (inr (stop, step, is)) = absurd (let no : Ok t ≡ Err stop = is in cc)
