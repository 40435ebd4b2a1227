-- A question has one answer.
use Rattle.std.proofs.Common.{◌≡◌, ◌≤◌, ◌↔◌, ℕ, Bool, true, false, List, [], ◌∷◌, ◌++◌, Option, Some, None, Contains, option_map, refl, sym, ◌∙◌, ap, ap₂, subst, arith}
use Rattle.std.specs.List.{AllZip, flat_map}
use Rattle.std.proofs.lemmas.Option.{same_Some}
use Rattle.base_types.specs.declared.kubernetes.key.ObjectKey.{ObjectKey}
use Rattle.base_types.specs.declared.kubernetes.request.RequestAttrs.{RequestAttrs}
use Rattle.base_types.specs.declared.kubernetes.request.User.{User}
use Rattle.clouds.specs.Kept.{key_order}
use Rattle.history_model.proofs.Members.{apart}
use Rattle.history_model.proofs.SameSorted.{same_sorted}
use Rattle.history_model.specs.Histories as past
use Rattle.object_past.proofs.Looking.{in_map}
use Rattle.object_past.specs.Modelled.{version_of}
use Rattle.object_past.specs.declared.version.Version.{Version}
use Rattle.std.specs.declared.cmp.Ordering.TheVariants.{Less}
use Rattle.verdict_text.specs.Words.{ended}
use Rattle.log_context.proofs.OneHistory.{not_both_less, one_told, same_version}
use Rattle.log_context.specs.Histories.{history_of}
use Rattle.log_context.specs.Keyed.{AreKeys}
use Rattle.log_context.specs.Known.{Known}
use Rattle.write_groups.specs.declared.groups.Group.{Group}
use Rattle.log_context.specs.Told.{IsTold as IsTruth}
use Rattle.history_query.specs.Blaming.{IsBlame, IsPresentBlame, IsSince, since_text, value_pointed, value_text}
use Rattle.history_query.specs.Deciding.{IsCanTextBy, IsDecision, possible_word}
use Rattle.history_query.specs.OneText.{OneText}
use Rattle.history_query.specs.Questions.{IsHistoryText}
use Rattle.history_query.specs.Showing.{IsSightText, absent_text, clouded_text, present_text, sight_text}
use Rattle.history_query.specs.Sights.{IsPresence, IsSight, ObjectMayBeAbsent}
use Rattle.history_query.specs.States.{IsKeyText, IsStateOf, key_text, presence_text}
use Rattle.history_query.specs.Telling.{IsBelowStart, IsToldText, IsUntold}
use Rattle.history_query.specs.declared.question.Question.{Question}
use Rattle.history_query.specs.declared.question.Question.TheVariants.{Show, Versions, State, Blame, Can}
use Rattle.history_query.specs.declared.sight.ObjectSight.{ObjectSight}
use Rattle.history_query.specs.declared.sight.ObjectSight.TheVariants.{Clouded, Told}

-- a text that is told once, or `unknown`
told_once : (untold : Type 0) (Is : List ℕ → Type 0) → ((a b : List ℕ) → Is a → Is b → a ≡ b) → (a b : List ℕ) → IsToldText untold Is a → IsToldText untold Is b → a ≡ b
told_once untold Is once a b (IsToldText.nothing hid x) (IsToldText.nothing other y) = x ∙ sym y
told_once untold Is once a b (IsToldText.nothing hid x) (IsToldText.something seen y) = absurd (seen hid)
told_once untold Is once a b (IsToldText.something seen x) (IsToldText.nothing hid y) = absurd (seen hid)
told_once untold Is once a b (IsToldText.something seen x) (IsToldText.something other y) = once a b x y

-- two tests of one fact
same_test : (P : Type 0) (a b : Bool) → (a ≡ true) ↔ P → (b ≡ true) ↔ P → a ≡ b
same_test P true true x y = refl
same_test P true false x y = absurd (let no : false ≡ true = y.1 (x.0 refl) in cc no)
same_test P false true x y = absurd (let no : false ≡ true = x.1 (y.0 refl) in cc no)
same_test P false false x y = refl

module _ (known : Known) (truth : IsTruth known) where
  one_at : (v w : Version) → Contains known.versions v → Contains known.versions w → v.revision ≡ w.revision → v ≡ w
  one_at v w c d e = same_version v w (apart (λ (x : past.Version). x.revision) (history_of known).versions (version_of v) (version_of w) truth.readable.versions.rising
      (in_map version_of known.versions v c) (in_map version_of known.versions w d) e)

  one_presence : (key : ObjectKey) (place : ℕ) (a b : Option Version) → IsPresence known key place a → IsPresence known key place b → a ≡ b
  one_presence key place None None x y = refl
  one_presence key place None (Some w) x y = absurd (x (version_of w) y.1)
  one_presence key place (Some v) None x y = absurd (y (version_of v) x.1)
  one_presence key place (Some v) (Some w) x y = ap Some (same_version v w (same_Some (version_of v) (version_of w) (sym x.1.is_latest ∙ y.1.is_latest)))

  -- what is made of a sight is made once, where it is a text for hidden objects and one for what may be there
  seen_once : {X : Type 0} (hidden : X) (of : Option Version → Bool → X) (is : ObjectSight → X) → (is Clouded ≡ hidden)
      → ((p : _) (absent : Bool) → is (Told p absent) ≡ of (option_map (λ v. v.now) p) absent)
      → (key : ObjectKey) (place : ℕ) (a b : ObjectSight) → IsSight known key place a → IsSight known key place b → is a ≡ is b
  seen_once hidden of is at_cloud at_told key place Clouded Clouded x y = refl
  seen_once hidden of is at_cloud at_told key place Clouded (Told p absent) x y = absurd (y.0 x)
  seen_once hidden of is at_cloud at_told key place (Told p absent) Clouded x y = absurd (x.0 y)
  seen_once hidden of is at_cloud at_told key place (Told p absent) (Told q other) x y =
      let presences = one_presence key place _ _ x.1 y.1 in
      let absents = same_test (ObjectMayBeAbsent (history_of known) key place) absent other x.2 y.2 in
      at_told p absent ∙ ap₂ of presences absents ∙ sym (at_told q other)

  show_once : (key : ObjectKey) (place : ℕ) (a b : List ℕ) → IsSightText known key place a → IsSightText known key place b → a ≡ b
  show_once key place a b (sight, is, x) (other, is', y) =
      x ∙ seen_once clouded_text (λ present absent. present_text known.trees present ++ absent_text absent) (sight_text known.trees) refl (λ p absent. refl) key place sight other is is' ∙ sym y

  key_once : (place : ℕ) (key : ObjectKey) (a b : List ℕ) → IsKeyText known place key a → IsKeyText known place key b → a ≡ b
  key_once place key a b (sight, is, x) (other, is', y) =
      x ∙ seen_once (key_text key Clouded) (presence_text key) (key_text key) refl (λ p absent. refl) key place sight other is is' ∙ sym y

  keys_once : (place : ℕ) (keys : List ObjectKey) (xs ys : List (List ℕ)) → AllZip (IsKeyText known place) keys xs → AllZip (IsKeyText known place) keys ys → xs ≡ ys
  keys_once place [] [] [] x y = refl
  keys_once place [] [] (b ∷ ys) x y = absurd y
  keys_once place [] (a ∷ xs) ys x y = absurd x
  keys_once place (key ∷ keys) [] ys x y = absurd x
  keys_once place (key ∷ keys) (a ∷ xs) [] x y = absurd y
  keys_once place (key ∷ keys) (a ∷ xs) (b ∷ ys) x y = ap₂ (λ l ls. l ∷ ls) (key_once place key a b x.0 y.0) (keys_once place keys xs ys x.1 y.1)

  one_keys : (xs ys : List ObjectKey) → AreKeys known.versions known.log xs → AreKeys known.versions known.log ys → xs ≡ ys
  one_keys xs ys x y = same_sorted (λ a b. key_order a b ≡ Less) xs ys (λ a b c d less back. not_both_less a b less back) x.order y.order
      (λ key c. (y.exact key).1 ((x.exact key).0 c)) (λ key c. (x.exact key).1 ((y.exact key).0 c))

  state_once : (place : ℕ) (a b : List ℕ) → IsStateOf known place a → IsStateOf known place b → a ≡ b
  state_once place a b x y =
      let keys = one_keys x.keys y.keys x.are_keys y.are_keys in
      let texts = keys_once place y.keys x.texts y.texts (subst (λ l. AllZip (IsKeyText known place) l x.texts) keys x.each) y.each in
      x.joined ∙ ap (λ l. flat_map (λ (one : List ℕ). one) l) texts ∙ sym y.joined

  one_since : (pointer : List (List ℕ)) (v a b : Version) → IsSince known pointer v a → IsSince known pointer v b → a ≡ b
  one_since pointer v a b x y = one_at a b x.known_is y.known_is (antisym (x.least b y.known_is y.of_key y.upto y.stays) (y.least a x.known_is x.of_key x.upto x.stays))
    where
      antisym : {m n : ℕ} → m ≤ n → n ≤ m → m ≡ n
      antisym below above = omega (arith, below, above)

  present_once : (pointer : List (List ℕ)) (present : Option Version) (a b : List ℕ) → IsPresentBlame known pointer present a → IsPresentBlame known pointer present b → a ≡ b
  present_once pointer None a b x y = x ∙ sym y
  present_once pointer (Some v) a b (since, is, x) (other, is', y) =
      x ∙ ap (λ s. value_text (value_pointed known.trees pointer v) ++ since_text known.events known.log s) (one_since pointer v since other is is') ∙ sym y

  blame_once : (key : ObjectKey) (pointer : List (List ℕ)) (place : ℕ) (a b : List ℕ) → IsBlame known key pointer place a → IsBlame known key pointer place b → a ≡ b
  blame_once key pointer place a b (Clouded, is, x) (Clouded, is', y) = x ∙ sym y
  blame_once key pointer place a b (Clouded, is, x) (Told q other, is', y) = absurd (is'.0 is)
  blame_once key pointer place a b (Told p absent, is, x) (Clouded, is', y) = absurd (is.0 is')
  blame_once key pointer place a b (Told p absent, is, x) (Told q other, is', y) =
      present_once pointer _ a b (subst (λ present. IsPresentBlame known pointer present a) (one_presence key place _ _ is.1 is'.1) x) y

  decision_once : (place : ℕ) (who : User) (attrs : RequestAttrs) (a b : List ℕ) → IsDecision known place who attrs a → IsDecision known place who attrs b → a ≡ b
  decision_once place who attrs a b x y =
      x.word ∙ ap₂ (λ allow forbid. ended (possible_word allow forbid)) (same_test _ x.allow y.allow x.allowed y.allowed) (same_test _ x.forbid y.forbid x.forbidden y.forbidden) ∙ sym y.word

  can_once : (judged : Bool) (place : ℕ) (who : User) (attrs : RequestAttrs) (a b : List ℕ) → IsCanTextBy judged known place who attrs a → IsCanTextBy judged known place who attrs b → a ≡ b
  can_once false place who attrs a b x y = x ∙ sym y
  can_once true place who attrs a b x y = told_once (IsBelowStart known place) (IsDecision known place who attrs) (decision_once place who attrs) a b x y

  text_once : (question : Question) (a b : List ℕ) → IsHistoryText known question a → IsHistoryText known question b → a ≡ b
  text_once (Show key place) a b x y = told_once (IsUntold known key place) (IsSightText known key place) (show_once key place) a b x y
  text_once (Versions key) a b x y = told_once _ _ (λ c d p q. p ∙ sym q) a b x y
  text_once (State place) a b x y = told_once (IsBelowStart known place) (IsStateOf known place) (state_once place) a b x y
  text_once (Blame key pointer place) a b x y = told_once (IsUntold known key place) (IsBlame known key pointer place) (blame_once key pointer place) a b x y
  text_once (Can place who attrs) a b x y = can_once known.setup.authorize place who attrs a b x y

-- no text hangs on how a context groups the writes
module _ (b : Known) (groups : List Group) where
  abbrev regrouped : Known
  regrouped = record b { groups = groups }

  presence_in : (key : ObjectKey) (place : ℕ) (present : Option Version) → IsPresence b key place present → IsPresence regrouped key place present
  presence_in key place None is = is
  presence_in key place (Some v) is = is

  sight_in : (key : ObjectKey) (place : ℕ) (sight : ObjectSight) → IsSight b key place sight → IsSight regrouped key place sight
  sight_in key place Clouded is = is
  sight_in key place (Told present absent) is = (is.0, presence_in key place (option_map (λ v. v.now) present) is.1, is.2)

  told_in : (untold : Type 0) (Is Other : List ℕ → Type 0) → ((text : List ℕ) → Is text → Other text) → (text : List ℕ) → IsToldText untold Is text → IsToldText untold Other text
  told_in untold Is Other to text (IsToldText.nothing hid is) = IsToldText.nothing hid is
  told_in untold Is Other to text (IsToldText.something seen is) = IsToldText.something seen (to text is)

  keys_in : (place : ℕ) (keys : List ObjectKey) (texts : List (List ℕ)) → AllZip (IsKeyText b place) keys texts → AllZip (IsKeyText regrouped place) keys texts
  keys_in place [] [] is = is
  keys_in place [] (text ∷ texts) is = is
  keys_in place (key ∷ keys) [] is = is
  keys_in place (key ∷ keys) (text ∷ texts) is = ((is.0.0, sight_in key place is.0.0 is.0.1, is.0.2), keys_in place keys texts is.1)

  state_in : (place : ℕ) (text : List ℕ) → IsStateOf b place text → IsStateOf regrouped place text
  state_in place text is = record { keys = is.keys; are_keys = is.are_keys; texts = is.texts; each = keys_in place is.keys is.texts is.each; joined = is.joined }

  since_in : (pointer : List (List ℕ)) (v since : Version) → IsSince b pointer v since → IsSince regrouped pointer v since
  since_in pointer v since is = record { known_is = is.known_is; of_key = is.of_key; upto = is.upto; stays = is.stays; least = is.least }

  blamed_in : (pointer : List (List ℕ)) (present : Option Version) (text : List ℕ) → IsPresentBlame b pointer present text → IsPresentBlame regrouped pointer present text
  blamed_in pointer None text is = is
  blamed_in pointer (Some v) text (since, is, told) = (since, since_in pointer v since is, told)

  blame_in : (key : ObjectKey) (pointer : List (List ℕ)) (place : ℕ) (text : List ℕ) → IsBlame b key pointer place text → IsBlame regrouped key pointer place text
  blame_in key pointer place text (Clouded, is, told) = (Clouded, is, told)
  blame_in key pointer place text (Told present absent, is, told) =
      (Told present absent, sight_in key place (Told present absent) is, blamed_in pointer (option_map (λ v. v.now) present) text told)

  decision_in : (place : ℕ) (who : User) (attrs : RequestAttrs) (text : List ℕ) → IsDecision b place who attrs text → IsDecision regrouped place who attrs text
  decision_in place who attrs text is = record { allow = is.allow; forbid = is.forbid; allowed = is.allowed; forbidden = is.forbidden; word = is.word }

  can_in : (judged : Bool) (place : ℕ) (who : User) (attrs : RequestAttrs) (text : List ℕ) → IsCanTextBy judged b place who attrs text → IsCanTextBy judged regrouped place who attrs text
  can_in false place who attrs text is = is
  can_in true place who attrs text is = told_in (IsBelowStart b place) (IsDecision b place who attrs) (IsDecision regrouped place who attrs) (decision_in place who attrs) text is

  text_in : (question : Question) (text : List ℕ) → IsHistoryText b question text → IsHistoryText regrouped question text
  text_in (Show key place) text is =
      told_in (IsUntold b key place) (IsSightText b key place) (IsSightText regrouped key place) (λ told shown. (shown.0, sight_in key place shown.0 shown.1, shown.2)) text is
  text_in (Versions key) text is = is
  text_in (State place) text is = told_in (IsBelowStart b place) (IsStateOf b place) (IsStateOf regrouped place) (state_in place) text is
  text_in (Blame key pointer place) text is = told_in (IsUntold b key place) (IsBlame b key pointer place) (IsBlame regrouped key pointer place) (blame_in key pointer place) text is
  text_in (Can place who attrs) text is = can_in b.setup.authorize place who attrs text is

pub one_text : OneText
one_text = λ a b question text other x y setups events of_a of_b.
    text_once a x question text other of_a (subst (λ known. IsHistoryText known question other) (sym (one_told a b x y setups events)) (text_in b a.groups question other of_b))
