-- What was written of a text so far.
use Rattle.std.proofs.Common.{◌≡◌, ℕ, ◌+◌, ◌<◌, ◌≤◌, List, ◌++◌, length, take, drop, Option, Some, None, Result, Ok, Err, OnErr, get_or, suc, sym, ◌∙◌, ap, subst, arith, append_assoc, length-append}
use Rattle.std.proofs.Math.Seq.{drop-cons, take-append-add}
use Rattle.std.proofs.lemmas.Grind.{flat_map-append}
use Rattle.std.proofs.lemmas.List.{take-append-drop, take-append-le}
use Rattle.std.proofs.lemmas.List.Concat.{flat_map-cons}
use Rattle.std.specs.List.{flat_map}
use Rattle.std.specs.Io.KnownBytes.{Appends}
use Rattle.edge_io.specs.Endings.{AppendsPart}

-- what was written of a text, and of a text behind it
pub appends_behind : (a b c : Option (List ℕ)) (front text : List ℕ) → Appends a b front → Appends b c text → Appends a c (front ++ text)
appends_behind None b c front text first second = tt
appends_behind (Some x) None c front text first second = absurd first
appends_behind (Some x) (Some y) None front text first second = absurd second
appends_behind (Some x) (Some y) (Some z) front text first second = second ∙ ap (λ b. b ++ text) first ∙ append_assoc x front text

-- a part of a text that stands between others is a part of the whole
pub part_between : (a b c : Option (List ℕ)) (front text behind : List ℕ) → Appends a b front → AppendsPart b c text → AppendsPart a c (front ++ (text ++ behind))
part_between a b c front text behind first (n, short, second) =
    let long = length-append front (text ++ behind) in
    let rest = length-append text behind in
    let shorter : n ≤ length text = omega (arith, short) in
    let same : take (length front + n) (front ++ (text ++ behind)) ≡ front ++ take n text = take-append-add front (text ++ behind) n ∙ ap (λ l. front ++ l) (take-append-le n text behind shorter) in
    (length front + n, omega (arith, long, rest, short), subst (Appends a c) (sym same) (appends_behind a b c front (take n text) first second))

-- so many stretches were written
pub record IsSpread (before now : Option (List ℕ)) (faults_before faults_now : ℕ) (front : List ℕ) : Type 0 where
  pub counted : faults_before ≤ faults_now
  pub written : Appends before now front

-- what a list of texts is made of, around one of them
pub spread : {X : Type 0} (text_of : X → List ℕ) (parts : List X) (at : ℕ) (other : X) → at < length parts
    → flat_map text_of parts ≡ flat_map text_of (take at parts) ++ (text_of (get_or parts at other) ++ flat_map text_of (drop (suc at) parts))
spread text_of parts at other within =
    ap (flat_map text_of) (sym (take-append-drop at parts)) ∙ flat_map-append text_of (take at parts) (drop at parts)
    ∙ ap (λ l. flat_map text_of (take at parts) ++ l) (ap (flat_map text_of) (drop-cons parts at other within) ∙ flat_map-cons text_of (get_or parts at other) (drop (suc at) parts))

pub on_err : {A E : Type 0} (result : Result A E) (P : Type 0) → P → OnErr result P
on_err (Ok value) P holds = tt
on_err (Err error) P holds = holds
