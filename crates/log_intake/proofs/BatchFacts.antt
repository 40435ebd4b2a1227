-- How a batch is gathered, piece by piece.
use Rattle.std.proofs.Common.{◌≡◌, ℕ, ◌+◌, ◌-◌, ◌<◌, ◌≤◌, List, [], ◌∷◌, ◌++◌, length, take, drop, Option, Bool, true, false, Result, Ok, Err, OnErr, refl, sym, ◌∙◌, ap, subst, arith, append_assoc}
use Rattle.std.proofs.Common.{take-take}
use Rattle.std.proofs.lemmas.List.{append-nil, length-append, length-take, length-drop, map-append, take-append-drop}
use Rattle.std.proofs.lemmas.List.Elements.{All-append, All-nil, All-push}
use Rattle.std.specs.Prelude.{nat_eq}
use Rattle.std.specs.Io.KnownBytes.{Consumes, Keeps, IsAtEnd}
use Rattle.line_reader.specs.declared.line.Line.{Line}
use Rattle.line_reader.specs.Lines.{NumberedLine, newline, longest_line, extend_rest, whole_lines, rest_of, last_line, lines_from, is_dropped, numbered, number_after, count_behind}
use Rattle.line_reader.specs.Reading.{Reading, Continues, HoldsRest, StartsTooLong, line_value}
use Rattle.line_reader.proofs.LineFacts.{All-head, All-tail}
use Rattle.line_reader.proofs.ReaderFacts.{continues_both}
use Rattle.log_intake.specs.declared.batch.BatchEnd.{BatchEnd}
use Rattle.log_intake.specs.declared.batch.BatchEnd.TheVariants.{GoesOn, Ended, Failed, LineTooLong, InputTooLong}
use Rattle.log_intake.specs.Batches.{AreShort, EndsBatch, Gathers, GivesLast, GivesLines, GivesRest, HoldsOpen, TakesPiece, TakesSome, fed_with, line_values}
use Rattle.edge_io.specs.Whole.{HasTaken}
use Rattle.edge_io.proofs.TakenFacts.{taken_as, taken_kept, taken_nothing, taken_piece, taken_then}

none_short : AreShort []
none_short = All-nil (λ (l : NumberedLine). length l.bytes ≤ longest_line)

both_short : (xs ys : List NumberedLine) → AreShort xs → AreShort ys → AreShort (xs ++ ys)
both_short xs ys first second = All-append (λ (l : NumberedLine). length l.bytes ≤ longest_line) xs ys first second

-- no line was given
continues_nothing : (r : Reading) → Continues r [] r
continues_nothing r = record { lines = λ more. refl; whole = λ more. refl; rest = λ more. refl; count = λ more. refl }

pub gives_nothing : (r : Reading) (lines : List NumberedLine) → GivesLines r r lines lines
gives_nothing r lines = record { given = []; continues = continues_nothing r; short = none_short; behind = sym (append-nil lines) }

-- a line more
pub gives_more : (a b c : Reading) (lines : List NumberedLine) (items items' : List Line) (line : Line) → GivesLines a b lines (line_values items) → Continues b (line_value line ∷ []) c → length line.bytes ≤ longest_line → items' ≡ items ++ line ∷ [] → GivesLines a c lines (line_values items')
gives_more a b c lines items items' line g more short is = record {
  given = g.given ++ line_value line ∷ [];
  continues = continues_both a b c g.given (line_value line ∷ []) g.continues more;
  short = All-push (λ (l : NumberedLine). length l.bytes ≤ longest_line) g.given (line_value line) g.short short;
  behind = ap line_values is ∙ map-append line_value items (line ∷ []) ∙ ap (λ l. l ++ line_value line ∷ []) g.behind ∙ append_assoc lines g.given (line_value line ∷ []);
}

-- no line more
pub gives_none : (a b c : Reading) (lines lines' : List NumberedLine) → GivesLines a b lines lines' → Continues b [] c → GivesLines a c lines lines'
gives_none a b c lines lines' g none = record {
  given = g.given;
  continues = subst (λ l. Continues a l c) (append-nil g.given) (continues_both a b c g.given [] g.continues none);
  short = g.short;
  behind = g.behind;
}

-- the lines that wait, once more line was taken of them
pub fewer_wait : (reader reader' : Reading) (line : NumberedLine) → Continues reader (line ∷ []) reader' → length (lines_from reader'.number reader'.pending) < length (lines_from reader.number reader.pending)
fewer_wait reader reader' line c =
    let is : lines_from reader.number reader.pending ≡ line ∷ lines_from reader'.number reader'.pending =
    ap (λ p. lines_from reader.number p) (sym (append-nil reader.pending)) ∙ c.lines [] ∙ ap (λ p. line ∷ lines_from reader'.number p) (append-nil reader'.pending) in
    let all : length (lines_from reader.number reader.pending) ≡ length (line ∷ lines_from reader'.number reader'.pending) = ap (λ l. length l) is in
    omega (arith, all)

-- the lines of what waits are those given, and those that wait then
pub waiting : (a b : Reading) (given : List NumberedLine) → Continues a given b → lines_from a.number a.pending ≡ given ++ lines_from b.number b.pending
waiting a b given c = ap (λ p. lines_from a.number p) (sym (append-nil a.pending)) ∙ c.lines [] ∙ ap (λ p. given ++ lines_from b.number p) (append-nil b.pending)

-- a line that has begun and isn't too long
extended_short : (byte : ℕ) (lines : List (List ℕ)) (rest bytes : List ℕ) → length rest ≤ length bytes → length (extend_rest byte lines rest) ≤ length (byte ∷ bytes)
extended_short byte [] rest bytes short = omega (arith, short)
extended_short byte (line ∷ lines) rest bytes short = omega (arith, short)

pub rest_short : (bytes : List ℕ) → length (rest_of bytes) ≤ length bytes
rest_short [] = omega arith
rest_short (byte ∷ bytes) = go (nat_eq byte newline) refl (rest_short bytes)
  where
    go : (t : Bool) → nat_eq byte newline ≡ t → length (rest_of bytes) ≤ length bytes → length (rest_of (byte ∷ bytes)) ≤ length (byte ∷ bytes)
    go true is short = rw is (omega (arith, short))
    go false is short = rw is (extended_short byte (whole_lines bytes) (rest_of bytes) bytes short)

last_short : (number : ℕ) (rest : List ℕ) → length rest ≤ longest_line → AreShort (numbered number (last_line rest))
last_short number [] short = none_short
last_short number (byte ∷ rest) short = go (is_dropped (byte ∷ rest)) refl
  where
    go : (t : Bool) → is_dropped (byte ∷ rest) ≡ t → AreShort (numbered number (last_line (byte ∷ rest)))
    go true is = rw is none_short
    go false is = rw is (All-push (λ (l : NumberedLine). length l.bytes ≤ longest_line) [] record { number = number_after number; bytes = byte ∷ rest } none_short short)

rest_lines_short : (r : Reading) → HoldsRest r → AreShort (lines_from r.number r.pending)
rest_lines_short r h =
    let few = rest_short r.pending in
    let short = h.short in
    rw h.whole (last_short r.number (rest_of r.pending) (omega (arith, few, short)))

starts_short : (number : ℕ) (lines : List NumberedLine) → AreShort lines → StartsTooLong number lines → ⊥
starts_short number [] short long = long
starts_short number (line ∷ lines) short long =
    let few = All-head (λ (l : NumberedLine). length l.bytes ≤ longest_line) line lines short in
    let many = long.1 in
    absurd (omega (arith, few, many))

behind_short : (xs ys : List NumberedLine) → AreShort (xs ++ ys) → AreShort ys
behind_short [] ys short = short
behind_short (x ∷ xs) ys short = behind_short xs ys (All-tail (λ (l : NumberedLine). length l.bytes ≤ longest_line) x (xs ++ ys) short)

none_left : (r : Reading) → HoldsRest r → r.ended ≡ true → lines_from r.number r.pending ≡ []
none_left r h ended = ap (λ p. lines_from r.number p) (h.all_given ended)

-- at the end the line that had begun was the last
pub last_given : (fits : Bool) (r ended after : Reading) (lines lines' : List NumberedLine) → HoldsOpen r → lines_from ended.number ended.pending ≡ lines_from r.number r.pending → ended.ended ≡ true → after.ended ≡ ended.ended
    → GivesRest fits ended after lines lines' → GivesLast r lines lines'
last_given true r ended after lines lines' held same over over' g = record {
  given = g.0.given;
  all = sym same ∙ waiting ended after g.0.given g.0.continues ∙ ap (λ l. g.0.given ++ l) (none_left after g.1 (over' ∙ over)) ∙ append-nil g.0.given;
  short = g.0.short;
  behind = g.0.behind;
}
last_given false r ended after lines lines' held same over over' g =
    let middle = g.0 in
    let whole : lines_from r.number r.pending ≡ g.1.given ++ lines_from middle.number middle.pending = sym same ∙ waiting ended middle g.1.given g.1.continues in
    let short : AreShort (lines_from middle.number middle.pending) = behind_short g.1.given (lines_from middle.number middle.pending) (subst AreShort whole (rest_lines_short r held.rest)) in
    let long : StartsTooLong g.2.0 (lines_from middle.number middle.pending) = subst (λ p. StartsTooLong g.2.0 (lines_from middle.number p)) (append-nil middle.pending) (g.2.1 []) in
    absurd (starts_short g.2.0 (lines_from middle.number middle.pending) short long)

-- more was fed behind the lines that were given
pub continues_extended : (r a : Reading) (fed more : List ℕ) (given : List NumberedLine) → Continues (fed_with r fed) given a → Continues (fed_with r (fed ++ more)) given (fed_with a more)
continues_extended r a fed more given c =
    let behind : (next : List ℕ) → (r.pending ++ (fed ++ more)) ++ next ≡ (r.pending ++ fed) ++ (more ++ next) =
    λ next. ap (λ l. l ++ next) (sym (append_assoc r.pending fed more)) ∙ append_assoc (r.pending ++ fed) more next in
    let pending : (next : List ℕ) → a.pending ++ (more ++ next) ≡ (a.pending ++ more) ++ next = λ next. sym (append_assoc a.pending more next) in
    record {
      lines = λ next. ap (λ b. lines_from r.number b) (behind next) ∙ c.lines (more ++ next) ∙ ap (λ b. given ++ lines_from a.number b) (pending next);
      whole = λ next. ap (λ b. numbered r.number (whole_lines b)) (behind next) ∙ c.whole (more ++ next) ∙ ap (λ b. given ++ numbered a.number (whole_lines b)) (pending next);
      rest = λ next. ap (λ b. rest_of b) (behind next) ∙ c.rest (more ++ next) ∙ ap (λ b. rest_of b) (pending next);
      count = λ next. ap (λ b. count_behind r.number (whole_lines b)) (behind next) ∙ c.count (more ++ next) ∙ ap (λ b. count_behind a.number (whole_lines b)) (pending next);
    }

pub continues_then : (r a b : Reading) (fed more : List ℕ) (given given' : List NumberedLine) → Continues (fed_with r fed) given a → Continues (fed_with a more) given' b → Continues (fed_with r (fed ++ more)) (given ++ given') b
continues_then r a b fed more given given' first second =
    continues_both (fed_with r (fed ++ more)) (fed_with a more) b given given' (continues_extended r a fed more given first) second

-- nothing was fed
fed_nothing : (r : Reading) → Continues (fed_with r []) [] r
fed_nothing r = record {
  lines = λ more. ap (λ p. lines_from r.number (p ++ more)) (append-nil r.pending);
  whole = λ more. ap (λ p. numbered r.number (whole_lines (p ++ more))) (append-nil r.pending);
  rest = λ more. ap (λ p. rest_of (p ++ more)) (append-nil r.pending);
  count = λ more. ap (λ p. count_behind r.number (whole_lines (p ++ more))) (append-nil r.pending);
}

-- before the first piece
pub gathers_nothing : (old : Option (List ℕ)) (r : Reading) (taken most : ℕ) → taken ≤ 1099511627776 → HoldsOpen r → Gathers GoesOn old old r r [] taken taken most
gathers_nothing old r taken most within held = record {
  fed = [];
  past = [];
  told = taken_nothing old;
  counted = omega arith;
  within = within;
  piece = omega arith;
  few = omega arith;
  short = none_short;
  lines = (fed_nothing r, held, refl);
}

-- a read failed
pub piece_failed : (old now : Option (List ℕ)) (r : Reading) (lines : List NumberedLine) (taken : ℕ) → taken ≤ 1099511627776 → HoldsOpen r → Keeps old now → TakesPiece Failed old now r r lines lines taken taken
piece_failed old now r lines taken within held keeps = record {
  given = [];
  gathers = record {
    fed = [];
    past = [];
    told = taken_kept old now keeps;
    counted = omega arith;
    within = within;
    piece = omega arith;
    few = omega arith;
    short = none_short;
    lines = (fed_nothing r, held, refl);
  };
  behind = sym (append-nil lines);
}

-- a read gave nothing
pub piece_ended : (old now : Option (List ℕ)) (r r' : Reading) (lines lines' : List NumberedLine) (taken : ℕ) → taken ≤ 1099511627776 → HasTaken old now [] → IsAtEnd now → GivesLast r lines lines' → TakesPiece Ended old now r r' lines lines' taken taken
piece_ended old now r r' lines lines' taken within told end g = record {
  given = g.given;
  gathers = record {
    fed = [];
    past = [];
    told = told;
    counted = omega arith;
    within = within;
    piece = omega arith;
    few = omega arith;
    short = g.short;
    lines = (ap (λ p. lines_from r.number p) (append-nil r.pending) ∙ g.all, refl, end);
  };
  behind = g.behind;
}

-- so much of the piece is fed, and the rest is past the limit
pub fed_piece : (into : List ℕ) (within count : ℕ) → within ≤ count → take within into ++ drop within (take count into) ≡ take count into
fed_piece into within count few = ap (λ front. front ++ drop within (take count into)) (sym (take-take within count into few)) ∙ take-append-drop within (take count into)

nothing_past : (into : List ℕ) (within count : ℕ) → count ≤ within → drop within (take count into) ≡ []
nothing_past into within count all =
    let left = length-drop within (take count into) in
    let most = length-take count into in
    none (drop within (take count into)) (omega (arith, left, most, all))
  where
    none : (piece : List ℕ) → length piece ≡ 0 → piece ≡ []
    none [] is = refl
    none (byte ∷ piece) is = absurd (omega (arith, is))

pieces : (end : BatchEnd) (old now : Option (List ℕ)) (r r' : Reading) (given lines lines' : List NumberedLine) (into : List ℕ) (taken within count : ℕ) → Consumes old now (take count into) → within ≤ count → count ≤ length into → length into ≤ 65536 → taken + within ≤ 1099511627776
    → AreShort given → lines' ≡ lines ++ given → EndsBatch end r (take within into) (drop within (take count into)) given r' now (taken + within) → TakesPiece end old now r r' lines lines' taken (taken + within)
pieces end old now r r' given lines lines' into taken within count consumed few long small room short behind ends =
    let a = length-take within into in
    let b = length-take count into in
    let d = length-drop within (take count into) in
    let whole : length (take within into ++ drop within (take count into)) ≡ length (take count into) = ap length (fed_piece into within count few) in
    record {
      given = given;
      gathers = record {
        fed = take within into;
        past = drop within (take count into);
        told = taken_as old now (take count into) (take within into ++ drop within (take count into)) (sym (fed_piece into within count few)) (taken_piece old now (take count into) consumed);
        counted = omega (arith, a, few, long);
        within = room;
        piece = omega (arith, b, d, long, small);
        few = omega (arith, whole, b, long, small);
        short = short;
        lines = ends;
      };
      behind = behind;
    }

-- a line is too long
pub piece_long : (fits : Bool) (old now : Option (List ℕ)) (r r' : Reading) (lines lines' : List NumberedLine) (into fed : List ℕ) (taken within count : ℕ) → fits ≡ false → Consumes old now (take count into) → within ≤ count → count ≤ length into → length into ≤ 65536 → taken + within ≤ 1099511627776
    → fed ≡ take within into → GivesRest fits (fed_with r fed) r' lines lines' → TakesPiece LineTooLong old now r r' lines lines' taken (taken + within)
piece_long true old now r r' lines lines' into fed taken within count is consumed few long small room same g = absurd (let no : true ≡ false = is in cc)
piece_long false old now r r' lines lines' into fed taken within count is consumed few long small room same g =
    pieces LineTooLong old now r r' g.1.given lines lines' into taken within count consumed few long small room g.1.short g.1.behind
    (g.0, subst (λ p. Continues (fed_with r p) g.1.given g.0) same g.1.continues, g.2)

-- bytes came past the limit
pub piece_past : (fits : Bool) (old now : Option (List ℕ)) (r r' : Reading) (lines lines' : List NumberedLine) (into fed : List ℕ) (taken within count : ℕ) → fits ≡ true → Consumes old now (take count into) → within < count → count ≤ length into → length into ≤ 65536 → taken + within ≡ 1099511627776
    → fed ≡ take within into → r'.ended ≡ false → GivesRest fits (fed_with r fed) r' lines lines' → TakesPiece InputTooLong old now r r' lines lines' taken (taken + within)
piece_past false old now r r' lines lines' into fed taken within count is consumed few long small room same going g = absurd (let no : false ≡ true = is in cc)
piece_past true old now r r' lines lines' into fed taken within count is consumed few long small room same going g =
    let d = length-drop within (take count into) in
    let b = length-take count into in
    pieces InputTooLong old now r r' g.0.given lines lines' into taken within count consumed (omega (arith, few)) long small (omega (arith, room)) g.0.short g.0.behind
    (subst (λ p. Continues (fed_with r p) g.0.given r') same g.0.continues, record { rest = g.1; going = going }, omega (arith, d, b, few, long), room)

-- all bytes were fed
pub piece_fed : (fits : Bool) (old now : Option (List ℕ)) (r r' : Reading) (lines lines' : List NumberedLine) (into fed : List ℕ) (taken within count : ℕ) → fits ≡ true → Consumes old now (take count into) → within ≡ count → count ≤ length into → length into ≤ 65536 → taken + within ≤ 1099511627776
    → fed ≡ take within into → r'.ended ≡ false → GivesRest fits (fed_with r fed) r' lines lines' → TakesPiece GoesOn old now r r' lines lines' taken (taken + within)
piece_fed false old now r r' lines lines' into fed taken within count is consumed all long small room same going g = absurd (let no : false ≡ true = is in cc)
piece_fed true old now r r' lines lines' into fed taken within count is consumed all long small room same going g =
    pieces GoesOn old now r r' g.0.given lines lines' into taken within count consumed (omega (arith, all)) long small room g.0.short g.0.behind
    (subst (λ p. Continues (fed_with r p) g.0.given r') same g.0.continues, record { rest = g.1; going = going }, nothing_past into within count (omega (arith, all)))

-- a read that wasn't fed for want of memory
pub some_piece : (old now : Option (List ℕ)) (into : List ℕ) (taken count most : ℕ) → Consumes old now (take count into) → count ≤ length into → length into ≤ 65536 → taken ≤ 1099511627776 → TakesSome old now taken 65536
some_piece old now into taken count most consumed long small within =
    let b = length-take count into in
    record {
      taken = take count into;
      told = taken_piece old now (take count into) consumed;
      few = omega (arith, b, long, small);
      within = omega (arith, b, long, small, within);
    }

-- a piece behind those of a batch
ends_then : (end : BatchEnd) (r a b : Reading) (fed fed' past past' : List ℕ) (given given' : List NumberedLine) (now : Option (List ℕ)) (taken : ℕ) → Continues (fed_with r fed) given a → past ≡ [] → EndsBatch end a fed' past' given' b now taken → EndsBatch end r (fed ++ fed') past' (given ++ given') b now taken
ends_then GoesOn r a b fed fed' past past' given given' now taken c none ends = (continues_then r a b fed fed' given given' c ends.0, ends.1, ends.2)
ends_then Ended r a b fed fed' past past' given given' now taken c none ends =
    (ap (λ p. lines_from r.number p) (sym (append_assoc r.pending fed fed')) ∙ c.lines fed' ∙ ap (λ l. given ++ l) ends.0, ends.1, ends.2)
ends_then Failed r a b fed fed' past past' given given' now taken c none ends = (continues_then r a b fed fed' given given' c ends.0, ends.1, ends.2)
ends_then LineTooLong r a b fed fed' past past' given given' now taken c none ends = (ends.0, continues_then r a ends.0 fed fed' given given' c ends.1, ends.2)
ends_then InputTooLong r a b fed fed' past past' given given' now taken c none ends = (continues_then r a b fed fed' given given' c ends.0, ends.1, ends.2, ends.3)

pub gathers_then : (end : BatchEnd) (old middle now : Option (List ℕ)) (r a b : Reading) (lines lines' : List NumberedLine) (before at taken : ℕ) → Gathers GoesOn old middle r a lines before at 1310719 → TakesPiece end middle now a b lines lines' at taken → Gathers end old now r b lines' before taken 1376256
gathers_then end old middle now r a b lines lines' before at taken g p =
    let h = p.gathers in
    let first : HasTaken old middle g.fed = taken_as old middle (g.fed ++ g.past) g.fed (ap (λ l. g.fed ++ l) g.lines.2 ∙ append-nil g.fed) g.told in
    let few = g.few in
    let more = h.few in
    let c = g.counted in
    let c' = h.counted in
    let sum = length-append g.fed h.fed in
    let sums = length-append (g.fed ++ h.fed) h.past in
    let sums' = length-append h.fed h.past in
    let sums'' = length-append g.fed g.past in
    record {
      fed = g.fed ++ h.fed;
      past = h.past;
      told = taken_as old now (g.fed ++ (h.fed ++ h.past)) ((g.fed ++ h.fed) ++ h.past) (sym (append_assoc g.fed h.fed h.past)) (taken_then old middle now g.fed (h.fed ++ h.past) first h.told);
      counted = omega (arith, c, c', sum);
      within = h.within;
      piece = h.piece;
      few = omega (arith, few, more, sum, sums, sums', sums'');
      short = subst AreShort (sym p.behind) (both_short lines p.given g.short h.short);
      lines = subst (λ l. EndsBatch end r (g.fed ++ h.fed) h.past l b now taken) (sym p.behind) (ends_then end r a b g.fed h.fed g.past h.past lines p.given now taken g.lines.0 g.lines.2 h.lines);
    }

-- the batch goes on while few bytes were taken
pub gathers_on : (old now : Option (List ℕ)) (r b : Reading) (lines : List NumberedLine) (before taken : ℕ) → Gathers GoesOn old now r b lines before taken 1376256 → taken - before < 1310720 → Gathers GoesOn old now r b lines before taken 1310719
gathers_on old now r b lines before taken g small =
    let c = g.counted in
    let sum : length (g.fed ++ g.past) ≡ length g.fed = ap length (ap (λ l. g.fed ++ l) g.lines.2 ∙ append-nil g.fed) in
    record {
      fed = g.fed;
      past = g.past;
      told = g.told;
      counted = g.counted;
      within = g.within;
      piece = g.piece;
      few = omega (arith, c, sum, small);
      short = g.short;
      lines = g.lines;
    }

-- want of memory at a piece behind those of a batch
pub some_then : (old middle now : Option (List ℕ)) (r a : Reading) (lines : List NumberedLine) (before at : ℕ) → Gathers GoesOn old middle r a lines before at 1310719 → TakesSome middle now at 65536 → TakesSome old now before 1376256
some_then old middle now r a lines before at g s =
    let few = g.few in
    let more = s.few in
    let w = s.within in
    let c = g.counted in
    let first : HasTaken old middle g.fed = taken_as old middle (g.fed ++ g.past) g.fed (ap (λ l. g.fed ++ l) g.lines.2 ∙ append-nil g.fed) g.told in
    let sum = length-append g.fed s.taken in
    let sum' = length-append g.fed g.past in
    record {
      taken = g.fed ++ s.taken;
      told = taken_then old middle now g.fed s.taken first s.told;
      few = omega (arith, few, more, sum, sum');
      within = omega (arith, w, c, sum);
    }

pub gathers_goes_on : (end : BatchEnd) (old middle now : Option (List ℕ)) (r a b : Reading) (lines lines' : List NumberedLine) (before at taken : ℕ) → end ≡ GoesOn → Gathers GoesOn old middle r a lines before at 1310719 → TakesPiece end middle now a b lines lines' at taken → Gathers GoesOn old now r b lines' before taken 1376256
gathers_goes_on end old middle now r a b lines lines' before at taken is g p =
    subst (λ e. Gathers e old now r b lines' before taken 1376256) is (gathers_then end old middle now r a b lines lines' before at taken g p)

pub on_err : {T E : Type 0} (answer : Result T E) (P : Type 0) → P → OnErr answer P
on_err {T} {E} (Ok value) P p = tt
on_err {T} {E} (Err fault) P p = p
