use Rattle.std.proofs.Common.{sym, ap, ◌∙◌, arith}
use Rattle.layout.specs.Head.{head_bytes}
use Rattle.layout.proofs.Heads.{wrote-back, folded_back}
use Rattle.layout.proofs.head.Head.cell.Goals as goal

pub returns-in-OfWrite : goal.returns-in-OfWrite
returns-in-OfWrite c =
    let h = c.args.self.now in
    record {
      bytes = c.cell_of.ensures ∙ sym (ap head_bytes c.in-OfWrite.is);
      back = λ k stripes f. wrote-back k stripes h c.cell_of.result c.in-OfWrite.stripe c.in-OfWrite.column c.in-OfWrite.is c.cell_of.ensures (omega arith) f;
    }

pub returns-in-OfParity : goal.returns-in-OfParity
returns-in-OfParity c =
    let h = c.args.self.now in
    record {
      bytes = c.cell_of-in-OfParity.ensures ∙ sym (ap head_bytes c.in-OfParity.is);
      back = λ k stripes f. folded_back k stripes h c.cell_of-in-OfParity.result c.in-OfParity.stripe c.in-OfParity.is c.cell_of-in-OfParity.ensures (omega arith) f;
    }
