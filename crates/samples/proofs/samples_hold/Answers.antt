use mathlib.Core.Path.{◌≡◌, ap}
use Rattle.samples.proofs.Computed.{samples}
use Rattle.samples.proofs.samples_hold.Goals as goal

pub returns : goal.returns
returns c =
    let s = samples in
    let a : c.double.result ≡ 29 = cc (c.double.ensures, s.twice-128) in
    let b : c.power.result ≡ 205 = cc (c.power.ensures, s.power-12) in
    let d : c.check_byte.result ≡ 0 = cc (c.check_byte.ensures, s.check-of-one) in
    let e : c.check_byte-2.result ≡ 0 = cc (c.check_byte-2.ensures, s.checks-of-two.0) in
    let f : c.check_byte-3.result ≡ 9 = cc (c.check_byte-3.ensures, s.checks-of-two.1) in
    let x : c.solved_pair-x.result.0 ≡ 1 = ap (λ p. p.0) c.solved_pair-x.ensures in
    let y : c.solved_pair-x.result.1 ≡ 2 = ap (λ p. p.1) c.solved_pair-x.ensures in
    record { answers = cc; samples = samples }
