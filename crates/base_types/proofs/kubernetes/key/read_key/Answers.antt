use Rattle.std.proofs.Common.{◌<◌, length, sym, ◌∙◌, arith}
use Rattle.std.proofs.lemmas.Grind.{common_steps}
use Rattle.base_types.proofs.KeyLemmas.{same_parts, spelled_by, word_some, part_some, key_spelling_injective}
use Rattle.base_types.proofs.kubernetes.key.read_key.Goals as goal
use Rattle.base_types.proofs.kubernetes.key.read_key.Goals.{then-is_empty-via-then-is_empty, then-is_empty-via-else-is_empty+then-is_empty-2}

pub returns-then-is_empty-clause-none : goal.returns-then-is_empty-clause-none
returns-then-is_empty-clause-none c = λ key is e.
    let same = same_parts c.args.word.now _ _ _ _ key c.in-Some.ensures.some e in
    let resource = word_some _ _ same.resource is.has_resource in
    let name = word_some _ _ same.name is.has_name in
    elim c.then-is_empty.branch [
      | then-is_empty-via-then-is_empty w ↦ grind (arith, common_steps)
      | then-is_empty-via-else-is_empty+then-is_empty-2 w ↦ grind (arith, common_steps)
    ]

pub returns-in_default-2-clause-none : goal.returns-in_default-2-clause-none
returns-in_default-2-clause-none c = λ key is e.
    let same = same_parts c.args.word.now _ _ _ _ key c.in-Some.ensures.some e in
    (rw c.in_default-2.is at c.in_ok-group.ensures.none) key.group key.resource (record {
      first_text = is.group;
      second_text = is.resource;
      first_written = same.group;
      second_written = same.resource;
    })

pub returns-in_default-3-clause-none : goal.returns-in_default-3-clause-none
returns-in_default-3-clause-none c = λ key is e.
    let same = same_parts c.args.word.now _ _ _ _ key c.in-Some.ensures.some e in
    (rw c.in_default-3.is at c.in_ok-namespace.ensures.none) key.namespace key.name (record {
      first_text = is.namespace;
      second_text = is.name;
      first_written = same.namespace;
      second_written = same.name;
    })

pub returns-clause-named : goal.returns-clause-named
returns-clause-named c =
    let resource_some : 0 < length c.in-Some.words.resource.now = grind (arith, common_steps) in
    let name_some : 0 < length c.in-Some.words.name.now = grind (arith, common_steps) in
    let front = rw c.in-Some-2.is at c.in_ok-group.ensures.some in
    let back = rw c.in-Some-3.is at c.in_ok-namespace.ensures.some in
    record {
      group = front.first_text;
      resource = front.second_text;
      namespace = back.first_text;
      name = back.second_text;
      has_resource = part_some _ _ front.second_written resource_some;
      has_name = part_some _ _ back.second_written name_some;
    }

pub returns-clause-alone : goal.returns-clause-alone
returns-clause-alone c = λ other e.
    let front = rw c.in-Some-2.is at c.in_ok-group.ensures.some in
    let back = rw c.in-Some-3.is at c.in_ok-namespace.ensures.some in
    let spelled = spelled_by c.args.word.now _ _ _ _ _ c.in-Some.ensures.some (record {
      group = front.first_written;
      resource = front.second_written;
      namespace = back.first_written;
      name = back.second_written;
    }) in
    key_spelling_injective other _ (sym e ∙ spelled)
