-- What was written of a text so far.
use Rattle.std.proofs.Common.{ℕ, ◌+◌, ◌≤◌, List, [], ◌++◌, length, take, drop, Option, Some, None, sym, ◌∙◌, ap, append_assoc}
use Rattle.std.proofs.lemmas.List.{append-nil}
use Rattle.std.proofs.Math.Seq.{take-add}
use Rattle.std.specs.Io.KnownBytes.{Appends, Keeps}

pub record IsWritten (before now : Option (List ℕ)) (faults_before faults_now : ℕ) (text : List ℕ) (at : ℕ) : Type 0 where
  pub within : at ≤ length text
  pub counted : faults_before ≤ faults_now
  pub front : Appends before now (take at text)

pub appends_nothing : (known : Option (List ℕ)) → Appends known known []
appends_nothing None = tt
appends_nothing (Some bytes) = sym (append-nil bytes)

pub appends_more : (a b c : Option (List ℕ)) (text : List ℕ) (at n : ℕ) → Appends a b (take at text) → Appends b c (take n (drop at text)) → Appends a c (take (at + n) text)
appends_more None b c text at n first second = tt
appends_more (Some x) None c text at n first second = absurd first
appends_more (Some x) (Some y) None text at n first second = absurd second
appends_more (Some x) (Some y) (Some z) text at n first second =
    second ∙ ap (λ b. b ++ take n (drop at text)) first ∙ append_assoc x (take at text) (take n (drop at text)) ∙ ap (λ b. x ++ b) (sym (take-add at n text))

pub appends_kept : (a b c : Option (List ℕ)) (text : List ℕ) → Appends a b text → Keeps b c → Appends a c text
appends_kept None b c text first second = tt
appends_kept (Some x) None c text first second = absurd first
appends_kept (Some x) (Some y) None text first second = absurd second
appends_kept (Some x) (Some y) (Some z) text first second = second ∙ first
