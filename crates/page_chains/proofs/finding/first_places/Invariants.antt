use Rattle.std.proofs.Common.{take}
use Rattle.page_chains.specs.Finding.{FindsFirst}
use Rattle.page_chains.proofs.KeyLemmas.{same}
use Rattle.page_chains.proofs.finding.first_places.Given as goal

abbrev pub invariant-loop-place : goal.invariant-loop-place
invariant-loop-place l = FindsFirst same l.pages (take l.place l.pages) l.places
