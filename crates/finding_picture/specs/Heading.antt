-- What stands first: the verdict, and what the code means.
use Rattle.std.specs.Prelude.{ℕ, List, [], ◌∷◌, ◌++◌, codes, decimal, unwrap_or}
use Rattle.base_types.specs.Reasons.{code_number}
use Rattle.base_types.specs.declared.verdict.claim.Reason.{Reason}
use Rattle.code_guide.specs.Guides.{text_of}
use Rattle.markup.specs.Pieces.{fixed, number, told, shown}
use Rattle.finding_picture.specs.declared.finding.Finding.{Finding}

-- U1 to U14
abbrev pub code_name : Reason → List ℕ
code_name reason = codes "U" ++ decimal (code_number reason)

-- what a code means, how it comes about and what to do
abbrev pub guide_text : Reason → List ℕ
guide_text reason = unwrap_or (text_of (code_name reason ∷ [])) []

unfoldable pub verdict_text : Finding → List ℕ
verdict_text finding = shown (
    fixed (codes "<h1>Unexplained</h1>\n<dl>\n<dt>Line</dt><dd>") ∷ number finding.line
    ∷ fixed (codes "</dd>\n<dt>Audit ID</dt><dd><code>") ∷ told finding.audit_id.now
    ∷ fixed (codes "</code></dd>\n<dt>Code</dt><dd>U") ∷ number (code_number finding.reason)
    ∷ fixed (codes "</dd>\n<dt>Places</dt><dd>from ") ∷ number finding.low
    ∷ fixed (codes " to ") ∷ number finding.high
    ∷ fixed (codes "</dd>\n</dl>\n") ∷ [])

unfoldable pub guide_section : Reason → List ℕ
guide_section reason = shown (fixed (codes "<pre>") ∷ told (guide_text reason) ∷ fixed (codes "</pre>\n") ∷ [])

unfoldable pub heading_text : Finding → List ℕ
heading_text finding = verdict_text finding ++ guide_section finding.reason
