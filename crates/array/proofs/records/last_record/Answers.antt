use Rattle.std.proofs.Common.{◌≡◌, ℕ, List, Some, ap, ◌∙◌, rules}
use Rattle.backplane.specs.Meaning.{Bytes}
use Rattle.layout.specs.Head.{head_in}
use Rattle.parity_log.specs.Codes.{coding_on}
use Rattle.array.proofs.Finishing.{last-to-finish}
use Rattle.array.proofs.records.last_record.Goals as goal

pub returns-clause-value : goal.returns-clause-value
returns-clause-value g c =
    let p = g.B.Backplane.view c.args.plane.now in
    let K = coding_on g.C.Code p in
    let at = c.in_ok-at.at in
    let k = c.args.started.now.shape.columns in
    let n = c.blocks-stripes.result in
    let found : c.args.last ≡ Some at = search rules in
    let blocks : n ≡ p.blocks = c.blocks-stripes.ensures ∙ ap (λ (x : Bytes). x.blocks) c.get.ensures.kept in
    let e = c.in_ok-head.ensures.value
    ∙ ap (λ (x : List ℕ). head_in k n x) c.get.ensures.got
    ∙ ap (λ (s : ℕ). head_in k s (p.cell at)) blocks
    ∙ ap (λ (j : ℕ). head_in j p.blocks (p.cell at)) c.requires.started.columns in
    last-to-finish K p c.args.started.now.header c.args.last at c.in_ok-head.head found c.requires.started.ready.used c.requires.last e
