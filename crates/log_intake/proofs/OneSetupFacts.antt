-- A setup reads as one setup, or is refused in one way.
use Rattle.std.proofs.Common.{◌≡◌, ℕ, inl, inr, List, Some, Result, Ok, Err, refl, sym, ◌∙◌, ap, arith}
use Rattle.base_types.specs.Meaning.{Meaning}
use Rattle.base_types.specs.Values.{of_data}
use Rattle.setup_file.specs.declared.fault.SetupRule.{SetupRule}
use Rattle.setup_file.specs.declared.setup.Setup.{Setup}
use Rattle.setup_file.specs.Reading.{IsTreeOf, ReadsAs, setup_of}
use Rattle.log_intake.specs.declared.stop.SetupStop.{SetupStop}
use Rattle.log_intake.specs.declared.stop.SetupStop.TheVariants.{Rule, TooLong, ReadFault, OutOfMemory}
use Rattle.log_intake.specs.Setup.{IsSetupRead}

one_tree : (bytes : List ℕ) (a b : Meaning) → IsTreeOf bytes a → IsTreeOf bytes b → a ≡ b
one_tree bytes a b (text, (value, is, tree)) (text', (value', is', tree')) =
    let same : value ≡ value' = (let e : Some value ≡ Some value' = sym is ∙ is' in cc) in
    let all : Some a ≡ Some b = sym tree ∙ ap of_data same ∙ tree' in
    (let one : a ≡ b = cc in one)

reads_once : (bytes : List ℕ) (a b : Result Setup SetupRule) → ReadsAs bytes a → ReadsAs bytes b → a ≡ b
reads_once bytes a b (inl (tree, is, found)) (inl (tree', is', found')) = sym found ∙ ap setup_of (one_tree bytes tree tree' is is') ∙ found'
reads_once bytes a b (inl (tree, is, found)) (inr (none, broken)) = absurd (none tree is)
reads_once bytes a b (inr (none, broken)) (inl (tree, is, found)) = absurd (none tree is)
reads_once bytes a b (inr (none, broken)) (inr (none', broken')) = broken ∙ sym broken'

not_both : (bytes : List ℕ) (setup : Setup) (rule : SetupRule) → ReadsAs bytes (Ok setup) → ReadsAs bytes (Err rule) → ⊥
not_both bytes setup rule x y = let no = reads_once bytes (Ok setup) (Err rule) x y in cc

pub one_setup : (bytes : List ℕ) (a b : Result Setup SetupStop) → IsSetupRead bytes a → IsSetupRead bytes b → a ≡ b
one_setup bytes (Ok a) (Ok b) x y = let same = reads_once bytes (Ok a) (Ok b) x.1 y.1 in cc
one_setup bytes (Ok a) (Err (Rule b)) x y = absurd (not_both bytes a b x.1 y.1)
one_setup bytes (Ok a) (Err TooLong) x y = absurd (let few = x.0 in omega (arith, few, y))
one_setup bytes (Ok a) (Err ReadFault) x y = absurd y
one_setup bytes (Ok a) (Err OutOfMemory) x y = absurd y
one_setup bytes (Err (Rule a)) (Ok b) x y = absurd (not_both bytes b a y.1 x.1)
one_setup bytes (Err (Rule a)) (Err (Rule b)) x y = let same = reads_once bytes (Err a) (Err b) x.1 y.1 in cc
one_setup bytes (Err (Rule a)) (Err TooLong) x y = absurd (let few = x.0 in omega (arith, few, y))
one_setup bytes (Err (Rule a)) (Err ReadFault) x y = absurd y
one_setup bytes (Err (Rule a)) (Err OutOfMemory) x y = absurd y
one_setup bytes (Err TooLong) (Ok b) x y = absurd (let few = y.0 in omega (arith, few, x))
one_setup bytes (Err TooLong) (Err (Rule b)) x y = absurd (let few = y.0 in omega (arith, few, x))
one_setup bytes (Err TooLong) (Err TooLong) x y = refl
one_setup bytes (Err TooLong) (Err ReadFault) x y = absurd y
one_setup bytes (Err TooLong) (Err OutOfMemory) x y = absurd y
one_setup bytes (Err ReadFault) b x y = absurd x
one_setup bytes (Err OutOfMemory) b x y = absurd x
