-- Of two batches the one in front was kept, and the other one decoded meanwhile.
use Rattle.std.proofs.Common.{◌≡◌, ◌⊎◌, inl, inr, List, Result, Ok, Err, IsOk, false, true, refl, sym, subst}
use Rattle.std.specs.List.{AllZip}
use Rattle.std.proofs.lemmas.Result.{IfOk-at_ok}
use Rattle.base_types.specs.declared.foundation.memory.OutOfMemory.{OutOfMemory}
use Rattle.line_reader.specs.declared.line.Line.{Line}
use Rattle.audit_event.specs.declared.event.Event.{Event}
use Rattle.batch_decode.specs.declared.decoded.Decoded.{Decoded}
use Rattle.batch_decode.specs.Batches.{IsDecodedLine}
use Rattle.log_intake.specs.declared.keeping.Place.{Place}
use Rattle.log_intake.specs.declared.stop.LogStop.{LogStop}
use Rattle.log_intake.specs.declared.stop.LogStop.TheVariants as stop
use Rattle.log_intake.specs.Keeping.{KeepsAndDecodes, KeepsBoth, KeepsLines, AreLinesKept, AreNext, AreNextBehind}

keeps_memory : (lines : List Line) (place : Place) (kept kept' : List Event) → KeepsLines lines place kept kept' (Err stop.OutOfMemory)
keeps_memory lines place kept kept' = record {
  all = tt;
  refused = λ refusal. absurd refusal;
  no_fault = λ is. absurd (let no : Err stop.OutOfMemory ≡ Err stop.ReadFault = is in cc);
}

front_kept : (front next : List Line) (place place' : Place) (kept kept' : List Event) (keeping : Result Place LogStop) (decoded : Result (List Decoded) OutOfMemory) → KeepsAndDecodes front next place kept kept' keeping decoded → keeping ≡ Ok place' → AreLinesKept front place place' kept kept'
front_kept front next place place' kept kept' keeping decoded a is = IfOk-at_ok (λ after. AreLinesKept front place after kept kept') is a.keeps.all

-- what the keeping of the other one may rest on
pub next_decoded : (front next : List Line) (place : Place) (kept kept' : List Event) (list : List Decoded) (keeping : Result Place LogStop) (decoded : Result (List Decoded) OutOfMemory) → KeepsAndDecodes front next place kept kept' keeping decoded → decoded ≡ Ok list → AllZip IsDecodedLine next list
next_decoded front next place kept kept' list keeping decoded a is = IfOk-at_ok (AllZip IsDecodedLine next) is a.decodes

pub next_behind : (front next : List Line) (place place' : Place) (kept kept' : List Event) (keeping : Result Place LogStop) (decoded : Result (List Decoded) OutOfMemory) → KeepsAndDecodes front next place kept kept' keeping decoded → AreNextBehind front next place kept → keeping ≡ Ok place' → AreNext next place' kept'
next_behind front next place place' kept kept' keeping decoded a behind is = behind place' kept' (front_kept front next place place' kept kept' keeping decoded a is)

-- it is kept too, or stops
pub both_keep : (front next : List Line) (place place' : Place) (kept between kept' : List Event) (keeping answer : Result Place LogStop) (decoded : Result (List Decoded) OutOfMemory) → KeepsAndDecodes front next place kept between keeping decoded → keeping ≡ Ok place' → KeepsLines next place' between kept' answer
    → KeepsBoth front next place kept kept' answer
both_keep front next place place' kept between kept' keeping answer decoded a is keeps = inr (place', between, front_kept front next place place' kept between keeping decoded a is, keeps)

-- the one in front stops, or memory is wanted for the other one
pub both_stop : (front next : List Line) (place : Place) (kept kept' : List Event) (keeping : Result Place LogStop) (decoded : Result (List Decoded) OutOfMemory) (why : LogStop) (X : Type 0) → KeepsAndDecodes front next place kept kept' keeping decoded → (keeping ≡ Err why) ⊎ (IsOk keeping × X × (why ≡ stop.OutOfMemory))
    → KeepsBoth front next place kept kept' (Err why)
both_stop front next place kept kept' keeping decoded why X a (inl is) = inl (refl, subst (KeepsLines front place kept kept') is a.keeps)
both_stop front next place kept kept' (Ok after) decoded why X a (inr (ok, x, is)) = inr (after, kept', a.keeps.all, subst (λ w. KeepsLines next after kept' kept' (Err w)) (sym is) (keeps_memory next after kept' kept'))
both_stop front next place kept kept' (Err fault) decoded why X a (inr (ok, x, is)) = absurd (let no : false ≡ true = ok in cc)
