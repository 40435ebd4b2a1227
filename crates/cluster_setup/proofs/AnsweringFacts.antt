-- What a time, a policy and files come to.
use Rattle.std.proofs.Common.{◌≡◌, ◌≢◌, ℕ, Bool, List, ◌∷◌, Ok, Err, refl, subst}
use Rattle.edge_io.specs.declared.whole.WholeStop.{WholeStop}
use Rattle.edge_io.specs.declared.whole.WholeStop.TheVariants as stops
use Rattle.cluster_setup.specs.Answering.{AnswersMade, IsMadeText}
use Rattle.cluster_setup.specs.Answers.{OrMemory}
use Rattle.cluster_setup.specs.Gathering.{SomeLong}
use Rattle.cluster_setup.specs.declared.answering.MadeText.{MadeText}
use Rattle.cluster_setup.specs.declared.fault.SetupRefusal.{SetupRefusal}
use Rattle.cluster_setup.specs.declared.fault.SetupRefusal.TheVariants.{Time, Policy, Empty, Rule, File, OutOfMemory}

-- a refusal that isn't want of memory
pub no_memory : (Is : SetupRefusal → Type 0) (refusal : SetupRefusal) → refusal ≢ OutOfMemory → OrMemory Is refusal → Is refusal
no_memory Is Time apart is = is
no_memory Is Policy apart is = is
no_memory Is Empty apart is = is
no_memory Is (Rule rule) apart is = is
no_memory Is (File number code) apart is = is
no_memory Is OutOfMemory apart is = absurd (apart refl)

-- what was made of the bytes that were told
pub made_of_told : (authorize : Bool) (time policy : List ℕ) (names files : List (List ℕ)) (made : MadeText) (of_policy : List ℕ) (of_files : List (List ℕ))
    → policy ≡ of_policy → files ≡ of_files → (SomeLong (policy ∷ files) → ⊥) → IsMadeText authorize time policy names files made
    → AnswersMade authorize time of_policy names of_files (Ok made)
made_of_told authorize time policy names files made of_policy of_files same_policy same_files short is =
    subst (λ p. AnswersMade authorize time p names of_files (Ok made)) same_policy
    (subst (λ fs. AnswersMade authorize time policy names fs (Ok made)) same_files (short, is))

-- nothing was read
pub stopped_made : (authorize : Bool) (time policy : List ℕ) (names files : List (List ℕ)) (stop : WholeStop)
    → (stop ≡ stops.TooLong → SomeLong (policy ∷ files)) → AnswersMade authorize time policy names files (Err stop)
stopped_made authorize time policy names files stops.TooLong long = long refl
stopped_made authorize time policy names files stops.ReadFault long = tt
stopped_made authorize time policy names files stops.OutOfMemory long = tt
