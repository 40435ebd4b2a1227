use Rattle.clouds.proofs.Keeping.{AreFiled-named, AreFiled-wide}
use Rattle.clouds.proofs.filing.file.Goals as goal

pub returns-in-Some : goal.returns-in-Some
returns-in-Some c =
    let names = rw c.in-Some.is at c.in_ok-key.ensures.some in
    λ spans filed. AreFiled-named _ _ _ spans c.in-Some.key c.args.span.now names c.in_ok-add_span.ensures filed

pub returns : goal.returns
returns c = λ spans filed. AreFiled-wide _ _ _ spans c.args.span.now c.in_ok-add.ensures filed
