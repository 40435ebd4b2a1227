use Rattle.std.proofs.Common.{◌≡◌, ◌≤◌, drop, map, take}
use Rattle.finding_picture.specs.Lasting.{since}
use Rattle.finding_picture.proofs.lasting.first_since.Given as goal

abbrev pub invariant-loop-index : goal.invariant-loop-index
invariant-loop-index l = record {
  bound : l.first ≤ l.index;
  rest : since l.place (map (λ one. one.now) (take l.index l.versions)) ≡ drop l.first (map (λ one. one.now) (take l.index l.versions));
}
