-- How the process ends, by how its call ended.
use Rattle.std.proofs.Common.{◌≡◌, ℕ, List, Option, Some, None, Result, Ok, Err, String, Vec, map, string_bytes, Global, inl, refl, sym, ◌∙◌, ap, subst}
use Rattle.base_types.specs.declared.foundation.memory.OutOfMemory.{OutOfMemory}
use Rattle.std.specs.Io.KnownBytes.{Keeps}
use Rattle.edge_io.specs.Endings.{Ends}
use Rattle.log_verdict.specs.Endings.{IsAnswered}
use Rattle.companion_words.specs.Command.{TellsWords}
use Rattle.companion.specs.Process.{EndsCall, EndsProcess, EndsWords}
use Rattle.companion.specs.Program.{IsAnswer, IsOfTable, usage_answer}
use Rattle.companion.specs.Running.{ReadsDesk, StatusTells}

pub keeps_same : (known : Option (List ℕ)) → Keeps known known
keeps_same None = tt
keeps_same (Some bytes) = refl

-- a call of whose desk nothing is known
module _ (words : List (List ℕ)) (old left : List ℕ → Option (List ℕ)) (untouched : Type 0) (desk_before desk_now sink_before sink_now : ℕ) (before now : Option (List ℕ)) (status : ℕ) where
  pub ended_call : ((files : List ℕ → List ℕ) → TellsWords words old files → IsAnswered (IsAnswer words files) desk_before desk_now sink_before sink_now before now status)
      → IsAnswered (IsOfTable words) desk_before desk_now sink_before sink_now before now status → StatusTells words desk_before desk_now sink_before sink_now before now status
      → ReadsDesk words old left untouched status → (untouched → desk_now ≡ desk_before) → EndsCall words desk_before desk_now sink_before sink_now before now status
  ended_call answered table told read same = record {
    answer = λ nothing files. answered files (λ asked asks name reads. absurd (nothing name (asked, asks, reads)));
    table = table;
    told = told;
    unread = λ nothing. same (read.desk_left nothing);
  }

-- a call on files, or none for want of memory
module _ {words : List (List ℕ)} {desk_before desk_now sink_before sink_now : ℕ} {before now : Option (List ℕ)} {status : ℕ} where
  pub ended_words : EndsCall words desk_before desk_now sink_before sink_now before now status → EndsWords words sink_before sink_now before now status
  ended_words ended = inl (desk_before, desk_now, ended)

-- what the arguments came to, and how the process ended
module _ (given : Result (Option (Vec (String Global) Global)) OutOfMemory) (sink_before sink_now : ℕ) (before now : Option (List ℕ)) (exit : ℕ) where
  pub on_words : (found : Option (Vec (String Global) Global)) (words : Vec (String Global) Global) (items : List (String Global)) → given ≡ Ok found → found ≡ Some words → items ≡ words.items
      → EndsWords (map (string_bytes {Z = Global}) items) sink_before sink_now before now exit → EndsProcess given sink_before sink_now before now exit
  on_words found words items is some same ended =
      subst (λ g. EndsProcess g sink_before sink_now before now exit) (sym (is ∙ ap (λ f. Ok f) some))
      (subst (λ i. EndsWords (map (string_bytes {Z = Global}) i) sink_before sink_now before now exit) same ended)

  pub on_none : (found : Option (Vec (String Global) Global)) (status : ℕ) → given ≡ Ok found → found ≡ None → exit ≡ status
      → Ends 2 usage_answer.text sink_before sink_now before now status → EndsProcess given sink_before sink_now before now exit
  on_none found status is none same ends =
      subst (λ g. EndsProcess g sink_before sink_now before now exit) (sym (is ∙ ap (λ f. Ok f) none))
      (subst (λ s. Ends 2 usage_answer.text sink_before sink_now before now s) (sym same) ends)

module _ (given : Result (Option (Vec (String Global) Global)) OutOfMemory) (sink_now : ℕ) (now : Option (List ℕ)) (exit : ℕ) where
  pub on_want : (memory : OutOfMemory) → given ≡ Err memory → exit ≡ 8 → EndsProcess given sink_now sink_now now now exit
  on_want memory is same = subst (λ g. EndsProcess g sink_now sink_now now now exit) (sym is) (same, keeps_same now)
