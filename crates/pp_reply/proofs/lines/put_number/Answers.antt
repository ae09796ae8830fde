-- A number of 64 bits has at most twenty digits.
use Rattle.std.proofs.Common.{◌≡◌, ◌≤◌, ◌<◌, ◌^◌, ℕ, Bool, true, false, length, decimal, IsTrue, ap, arith, lit<}
use Rattle.std.specs.Bool.{OnTrue}
use Rattle.std.proofs.lemmas.List.{length-append}
use Rattle.std.proofs.lemmas.Fmt.{length-decimal-le}
use Rattle.pp_reply.proofs.lines.put_number.Goals as goal

on_true : (r : Bool) (P : Type 0) → IsTrue r → OnTrue r P → P
on_true true P is p = p
on_true false P is p = absurd (let h : false ≡ true = is in cc)

short : (n : ℕ) → n < 2 ^ 64 → length (decimal n) ≤ 20
short n fits = length-decimal-le 20 n (lit< tt) (omega (arith, fits)) fits

pub returns-clause-value : goal.returns-clause-value
returns-clause-value c = on_true c.put_u64.result _ (c.put_u64.ensures.fits.1 (omega (arith, c.requires, short c.args.n c.ranges.n.fits))) c.put_u64.ensures.written

pub returns-clause-len : goal.returns-clause-len
returns-clause-len c =
    let value : goal.returns-clause-value = returns-clause-value in
    omega (arith, ap length (value c), length-append c.args.out.now.items (decimal c.args.n), short c.args.n c.ranges.n.fits)
