use Rattle.std.proofs.Common.{◌≡◌, ◌+◌, true, false, map, string_bytes, bytes_eq, drop, Global, rules, sym, ◌∙◌, ap}
use Rattle.std.specs.List.{list_any}
use Rattle.std.proofs.lemmas.List.{drop_all, take_rest}
use Rattle.process_words.specs.Names.{are_distinct}
use Rattle.process_words.proofs.NameFacts.{distinct_by, item_in_front}
use Rattle.process_words.proofs.names.are_distinct_by_name.Goals as goal

pub returns-then-is_among : goal.returns-then-is_among
returns-then-is_among c =
    let names = c.args.names.now in
    let at = c.loop-at.at in
    let name = c.deref.result.now in
    let behind = map (string_bytes {Z = Global}) (drop (at + 1) names) in
    let named : string_bytes {Z = Global} c.index-names-at.result ≡ name = search (rules, c.deref.ensures) in
    let front = item_in_front (string_bytes {Z = Global}) names at c.index-names-at.result name c.loop-at-test.true c.index-names-at.is named in
    let among : list_any (bytes_eq name) behind ≡ true =
    sym (ap (λ l. list_any (bytes_eq name) (map (string_bytes {Z = Global}) l)) (take_rest names (at + 1))) ∙ sym c.is_among.ensures ∙ c.if-is_among.true in
    sym (ap are_distinct front ∙ distinct_by name behind true among) ∙ c.loop-at.invariant

pub loop-at-preserved : goal.loop-at-preserved
loop-at-preserved c =
    let names = c.args.names.now in
    let at = c.loop-at.at in
    let name = c.deref.result.now in
    let behind = map (string_bytes {Z = Global}) (drop (at + 1) names) in
    let named : string_bytes {Z = Global} c.index-names-at.result ≡ name = search (rules, c.deref.ensures) in
    let front = item_in_front (string_bytes {Z = Global}) names at c.index-names-at.result name c.loop-at-test.true c.index-names-at.is named in
    let among : list_any (bytes_eq name) behind ≡ false =
    sym (ap (λ l. list_any (bytes_eq name) (map (string_bytes {Z = Global}) l)) (take_rest names (at + 1))) ∙ sym c.is_among.ensures ∙ c.if-is_among.false in
    sym (ap are_distinct front ∙ distinct_by name behind false among) ∙ c.loop-at.invariant

pub returns : goal.returns
returns c =
    let names = c.args.names.now in
    sym (ap (λ l. are_distinct (map (string_bytes {Z = Global}) l)) (drop_all c.loop-at.at names c.loop-at-test.false)) ∙ c.loop-at.invariant
