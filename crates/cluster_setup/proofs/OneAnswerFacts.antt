-- The same bytes come to one setup, or no setup is made of them for one reason.
use Rattle.std.proofs.Common.{◌≡◌, ℕ, zero, suc, ◌+◌, ◌<◌, ◌≤◌, ◌⊎◌, inl, inr, Bool, true, List, [], ◌∷◌, length, take, slice_get, Option, Some, None, is_some, refl, sym, ap, subst, ◌∙◌, arith}
use Rattle.std.specs.List.{All}
use Rattle.std.proofs.Math.Seq.{take-length}
use Rattle.base_types.specs.Meaning.{Meaning}
use Rattle.base_types.specs.Values.{InRange}
use Rattle.base_types.proofs.Found.{same_some}
use Rattle.setup_file.specs.declared.fault.SetupRule.{SetupRule}
use Rattle.setup_file.specs.Reading.{IsTreeOf}
use Rattle.timestamps.specs.Timestamps.{moment_of}
use Rattle.cluster_setup.specs.declared.assembling.Given.{Given}
use Rattle.cluster_setup.specs.declared.fault.FileFault.TheVariants.{Json}
use Rattle.cluster_setup.specs.declared.fault.SetupRefusal.{SetupRefusal}
use Rattle.cluster_setup.specs.declared.fault.SetupRefusal.TheVariants.{File}
use Rattle.cluster_setup.specs.Answers.{json_line, blamed, Breaks, BreaksRules, FilesRefused, IsAccepted, IsBlamed, IsMade, IsPolicy, IsReadOut, IsRefused, IsSetupText, IsUnread, Refuses}
use Rattle.cluster_setup.specs.Files.{start_word}
use Rattle.cluster_setup.specs.Making.{setup_tree}
use Rattle.cluster_setup.specs.OneSetupAnswer.{OneSetupAnswer}
use Rattle.cluster_setup.specs.Refusing.{AreTrees, IsFirstBroken, first_refused}
use Rattle.cluster_setup.proofs.AcceptedFewer.{accepted_fewer}
use Rattle.cluster_setup.proofs.ReadRanges.{tree_in_range, trees_in_range}
use Rattle.cluster_setup.proofs.Same.{same_tree}

some_none : {A : Type 0} (found : Option A) (a : A) → found ≡ Some a → found ≡ None → ⊥
some_none found a some none = absurd (let both : Some a ≡ None = sym some ∙ none in cc)

is_none : {A : Type 0} (found : Option A) → found ≡ None → is_some found ≡ true → ⊥
is_none (Some a) none some = absurd (cc)
is_none None none some = absurd (cc)

-- files have one tree each
same_trees : (files : List (List ℕ)) (ts us : List Meaning) → AreTrees files ts → AreTrees files us → ts ≡ us
same_trees [] [] [] x y = refl
same_trees [] [] (u ∷ us) x y = absurd y
same_trees [] (t ∷ ts) us x y = absurd x
same_trees (f ∷ fs) [] us x y = absurd x
same_trees (f ∷ fs) (t ∷ ts) [] x y = absurd y
same_trees (f ∷ fs) (t ∷ ts) (u ∷ us) x y = ap (λ tree. tree ∷ ts) (same_tree f t u x.0 y.0) ∙ ap (λ trees. u ∷ trees) (same_trees fs ts us x.1 y.1)

-- among files that are all read, each is
read_at : (files : List (List ℕ)) (trees : List Meaning) (i : ℕ) (file : List ℕ) → AreTrees files trees → slice_get files i ≡ Some file → (tree : Meaning) × IsTreeOf file tree
read_at [] trees i file read at = absurd (cc)
read_at (f ∷ fs) [] i file read at = absurd read
read_at (f ∷ fs) (t ∷ ts) zero file read at = (t, subst (λ text. IsTreeOf text t) (same_some f file at) read.0)
read_at (f ∷ fs) (t ∷ ts) (suc i) file read at = read_at fs ts i file read.1 at

at_front : (files : List (List ℕ)) (n i : ℕ) → i < n → slice_get (take n files) i ≡ slice_get files i
at_front [] zero i less = absurd (omega (arith, less))
at_front [] (suc n) i less = refl
at_front (f ∷ fs) zero i less = absurd (omega (arith, less))
at_front (f ∷ fs) (suc n) zero less = refl
at_front (f ∷ fs) (suc n) (suc i) less = at_front fs n i (omega (arith, less))

-- no file is broken before the first
not_before : (files : List (List ℕ)) (m n : ℕ) → (a : IsFirstBroken files m) → (b : IsFirstBroken files n) → length a.before < length b.before → ⊥
not_before files m n a b less =
    let there : slice_get (take (length b.before) files) (length a.before) ≡ Some a.broken = at_front files (length b.before) (length a.before) less ∙ a.at in
    let found = read_at (take (length b.before) files) b.before (length a.before) a.broken b.read there in
    a.none found.0 found.1

numbers : (a b : ℕ) → (a < b) ⊎ (b < a) ⊎ (a ≡ b)
numbers a b = grind arith

first_once : (files : List (List ℕ)) (m n : ℕ) → IsFirstBroken files m → IsFirstBroken files n → m ≡ n
first_once files m n a b = go (numbers (length a.before) (length b.before))
  where
    go : (length a.before < length b.before) ⊎ (length b.before < length a.before) ⊎ (length a.before ≡ length b.before) → m ≡ n
    go (inl less) = absurd (not_before files m n a b less)
    go (inr (inl less)) = absurd (not_before files n m b a less)
    go (inr (inr same)) = a.numbered ∙ ap (λ k. k + 1) same ∙ sym b.numbered

not_all_read : (files : List (List ℕ)) (n : ℕ) (trees : List Meaning) → IsFirstBroken files n → AreTrees files trees → ⊥
not_all_read files n trees a read = let found = read_at files trees (length a.before) a.broken read a.at in a.none found.0 found.1

-- what breaks a rule isn't accepted, and breaks one
broken_apart : (tree : Meaning) (rule : SetupRule) → Breaks tree rule → IsAccepted tree → ⊥
broken_apart tree rule (inl broken) accepted = absurd (let is = accepted.is in let was = broken.1 in cc)
broken_apart tree rule (inr broken) accepted = broken.0 accepted.read

broken_once : (tree : Meaning) (r s : SetupRule) → Breaks tree r → Breaks tree s → r ≡ s
broken_once tree r s (inl x) (inl y) = let is = x.1 in let was = y.1 in cc
broken_once tree r s (inl x) (inr y) = absurd (y.0 x.0)
broken_once tree r s (inr x) (inl y) = absurd (x.0 y.0)
broken_once tree r s (inr x) (inr y) = x.1 ∙ sym y.1

module _ (revision time : List ℕ) (policy : Meaning) (trees : List Meaning) (authorize : Bool) where
  blamed_once : (x y : SetupRefusal) → IsBlamed revision time policy trees authorize x → IsBlamed revision time policy trees authorize y → x ≡ y
  blamed_once x y a b = go (numbers a.number b.number)
    where
      go : (a.number < b.number) ⊎ (b.number < a.number) ⊎ (a.number ≡ b.number) → x ≡ y
      go (inl less) = absurd (broken_apart (setup_tree revision time policy trees (take a.number trees) authorize) a.rule a.broken (b.before a.number less))
      go (inr (inl less)) = absurd (broken_apart (setup_tree revision time policy trees (take b.number trees) authorize) b.rule b.broken (a.before b.number less))
      go (inr (inr same)) =
          let moved : Breaks (setup_tree revision time policy trees (take b.number trees) authorize) a.rule =
          subst (λ n. Breaks (setup_tree revision time policy trees (take n trees) authorize) a.rule) same a.broken in
          let rules : a.rule ≡ b.rule = broken_once (setup_tree revision time policy trees (take b.number trees) authorize) a.rule b.rule moved b.broken in
          a.is ∙ ap (λ n. blamed n a.rule) same ∙ ap (blamed b.number) rules ∙ sym b.is

module _ (time : List ℕ) (policy : Meaning) (authorize : Bool) where
  made_once : (trees : List Meaning) (x y : List ℕ) → IsSetupText time policy trees authorize x → IsSetupText time policy trees authorize y → x ≡ y
  made_once trees x y a b =
      let same : a.revision ≡ b.revision = same_some a.revision b.revision (sym a.start ∙ b.start) in
      a.made.is ∙ ap (λ revision. json_line (setup_tree revision time policy trees trees authorize)) same ∙ sym b.made.is

  rules_once : (trees : List Meaning) (x y : SetupRefusal) → BreaksRules time policy trees authorize x → BreaksRules time policy trees authorize y → x ≡ y
  rules_once trees x y a b =
      let same : a.revision ≡ b.revision = same_some a.revision b.revision (sym a.start ∙ b.start) in
      blamed_once b.revision time policy trees authorize x y (subst (λ revision. IsBlamed revision time policy trees authorize x) same a.blamed) b.blamed

  refused_once : (trees : List Meaning) (x y : SetupRefusal) → IsRefused time policy trees authorize x → IsRefused time policy trees authorize y → x ≡ y
  refused_once trees x y (inl a) (inl b) = same_some x y (sym a ∙ b)
  refused_once trees x y (inl a) (inr (inl b)) = absurd (some_none (first_refused trees trees) x a b.0)
  refused_once trees x y (inl a) (inr (inr b)) = absurd (some_none (first_refused trees trees) x a b.sound)
  refused_once trees x y (inr (inl a)) (inl b) = absurd (some_none (first_refused trees trees) y b a.0)
  refused_once trees x y (inr (inl a)) (inr (inl b)) = a.2 ∙ sym b.2
  refused_once trees x y (inr (inl a)) (inr (inr b)) = absurd (some_none (start_word trees) b.revision b.start a.1)
  refused_once trees x y (inr (inr a)) (inl b) = absurd (some_none (first_refused trees trees) y b a.sound)
  refused_once trees x y (inr (inr a)) (inr (inl b)) = absurd (some_none (start_word trees) a.revision a.start b.1)
  refused_once trees x y (inr (inr a)) (inr (inr b)) = rules_once trees x y a b

  unread_once : (files : List (List ℕ)) (x y : SetupRefusal) → IsUnread time policy files authorize x → IsUnread time policy files authorize y → x ≡ y
  unread_once files x y (inl a) (inl b) = a.2 ∙ ap (λ n. File n Json) (first_once files a.0 b.0 a.1 b.1) ∙ sym b.2
  unread_once files x y (inl a) (inr b) = absurd (not_all_read files a.0 b.0 a.1 b.1)
  unread_once files x y (inr a) (inl b) = absurd (not_all_read files b.0 a.0 b.1 a.1)
  unread_once files x y (inr a) (inr b) =
      refused_once b.0 x y (subst (λ trees. IsRefused time policy trees authorize x) (same_trees files a.0 b.0 a.1 b.1) a.2) b.2

  read_once : (files : List (List ℕ)) (x y : List ℕ) → IsReadOut time policy files authorize x → IsReadOut time policy files authorize y → x ≡ y
  read_once files x y a b =
      made_once b.trees x y (subst (λ trees. IsSetupText time policy trees authorize x) (same_trees files a.trees b.trees a.read b.read) a.made) b.made

same_policy : (bytes : List ℕ) (t u : Meaning) → IsPolicy bytes t → IsPolicy bytes u → t ≡ u
same_policy bytes t u a b = same_tree bytes t u a.0 b.0

texts_once : (time policy : List ℕ) (files : List (List ℕ)) (authorize : Bool) (a b : List ℕ) → IsMade time policy files authorize a → IsMade time policy files authorize b → a ≡ b
texts_once time policy files authorize a b x y =
    let same = same_policy policy x.given y.given x.governed y.governed in
    read_once time y.given authorize files a b (subst (λ given. IsReadOut time given files authorize a) same x.made) y.made

files_once : (time policy : List ℕ) (files : List (List ℕ)) (authorize : Bool) (a b : SetupRefusal)
    → FilesRefused time policy files authorize a → FilesRefused time policy files authorize b → a ≡ b
files_once time policy files authorize a b x y =
    let same = same_policy policy x.given y.given x.governed y.governed in
    unread_once time y.given authorize files a b (subst (λ given. IsUnread time given files authorize a) same x.cause) y.cause

refusals_once : (time policy : List ℕ) (files : List (List ℕ)) (authorize : Bool) (a b : SetupRefusal) → Refuses time policy files authorize a → Refuses time policy files authorize b → a ≡ b
refusals_once time policy files authorize a b (inl x) (inl y) = x.0 ∙ sym y.0
refusals_once time policy files authorize a b (inl x) (inr (inl y)) = absurd (is_none (moment_of time) x.1 y.1)
refusals_once time policy files authorize a b (inl x) (inr (inr y)) = absurd (is_none (moment_of time) x.1 y.timed)
refusals_once time policy files authorize a b (inr (inl x)) (inl y) = absurd (is_none (moment_of time) y.1 x.1)
refusals_once time policy files authorize a b (inr (inl x)) (inr (inl y)) = x.0 ∙ sym y.0
refusals_once time policy files authorize a b (inr (inl x)) (inr (inr y)) = absurd (x.2 y.given y.governed)
refusals_once time policy files authorize a b (inr (inr x)) (inl y) = absurd (is_none (moment_of time) y.1 x.timed)
refusals_once time policy files authorize a b (inr (inr x)) (inr (inl y)) = absurd (y.2 x.given x.governed)
refusals_once time policy files authorize a b (inr (inr x)) (inr (inr y)) = files_once time policy files authorize a b x y

-- ---- a setup is made, or none is

-- a setup that is accepted with the objects of all files is accepted with those of some at the front
accepted_to : (revision time : List ℕ) (policy : Meaning) (trees : List Meaning) (authorize : Bool) (number : ℕ) → number ≤ length trees → InRange policy → All InRange trees
    → IsAccepted (setup_tree revision time policy trees trees authorize) → IsAccepted (setup_tree revision time policy trees (take number trees) authorize)
accepted_to revision time policy trees authorize number within policy_range range accepted =
    let given : Given = record {
      revision = record { ref_ptr = (0, 0); now = revision };
      time = record { ref_ptr = (0, 0); now = time };
      policy = record { ref_ptr = (0, 0); now = policy };
      trees = record { ref_ptr = (0, 0); now = trees };
      authorize = authorize;
    } in
    accepted_fewer given (length trees) number within policy_range range
    (subst (λ l. IsAccepted (setup_tree revision time policy trees l authorize)) (sym (take-length trees)) accepted)

-- so no file's objects break a rule then
blamed_apart : (revision time : List ℕ) (policy : Meaning) (trees : List Meaning) (authorize : Bool) (refusal : SetupRefusal) → InRange policy → All InRange trees
    → IsAccepted (setup_tree revision time policy trees trees authorize) → IsBlamed revision time policy trees authorize refusal → ⊥
blamed_apart revision time policy trees authorize refusal policy_range range accepted b =
    broken_apart (setup_tree revision time policy trees (take b.number trees) authorize) b.rule b.broken
    (accepted_to revision time policy trees authorize b.number b.within policy_range range accepted)

module _ (time : List ℕ) (policy : Meaning) (authorize : Bool) (policy_range : InRange policy) (text : List ℕ) (refusal : SetupRefusal) where
  refused_apart : (trees : List Meaning) → All InRange trees → IsSetupText time policy trees authorize text → IsRefused time policy trees authorize refusal → ⊥
  refused_apart trees range a (inl b) = some_none (first_refused trees trees) refusal b a.sound
  refused_apart trees range a (inr (inl b)) = some_none (start_word trees) a.revision a.start b.1
  refused_apart trees range a (inr (inr b)) =
      let same : a.revision ≡ b.revision = same_some a.revision b.revision (sym a.start ∙ b.start) in
      let accepted = subst (λ revision. IsAccepted (setup_tree revision time policy trees trees authorize)) same a.made.accepted in
      blamed_apart b.revision time policy trees authorize refusal policy_range range accepted b.blamed

  unread_apart : (files : List (List ℕ)) → IsReadOut time policy files authorize text → IsUnread time policy files authorize refusal → ⊥
  unread_apart files a (inl b) = not_all_read files b.0 a.trees b.1 a.read
  unread_apart files a (inr b) =
      refused_apart b.0 (trees_in_range files b.0 b.1) (subst (λ trees. IsSetupText time policy trees authorize text) (same_trees files a.trees b.0 a.read b.1) a.made) b.2

made_apart : (time policy : List ℕ) (files : List (List ℕ)) (authorize : Bool) (text : List ℕ) (refusal : SetupRefusal)
    → IsMade time policy files authorize text → Refuses time policy files authorize refusal → ⊥
made_apart time policy files authorize text refusal x (inl y) = is_none (moment_of time) y.1 x.timed
made_apart time policy files authorize text refusal x (inr (inl y)) = y.2 x.given x.governed
made_apart time policy files authorize text refusal x (inr (inr y)) =
    let same = same_policy policy x.given y.given x.governed y.governed in
    unread_apart time y.given authorize (tree_in_range policy y.given y.governed.0) text refusal files (subst (λ given. IsReadOut time given files authorize text) same x.made) y.cause

pub one_setup_answer : OneSetupAnswer
one_setup_answer = record { texts = texts_once; refusals = refusals_once; apart = made_apart }
