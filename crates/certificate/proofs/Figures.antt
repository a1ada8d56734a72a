-- Figures in their range: sums and differences of them fit an i64, whatever is claimed. Assumes nothing.
use mathlib.Core.Path.{◌≡◌, ◌∙◌, ap}
use Prim.Native.Nat.{ℕ, ◌*◌, ◌-◌, ◌^◌, ◌≤◌, ◌<◌}
use native.Mathlib.Nat.{mul-le-mul}
use native.Mathlib.Omega.{arith}
use lib.IntN.{ℤ, pos, ◌+ℤ◌, ◌-ℤ◌, ◌*ℤ◌, pos-*ℤ-pos}
use lib.Signed.{mag}
use mir.Syntax.{w64}
use mir.Val.{SFits, to_z, of_z}
use mir.Facts.{to_z-of_z, to_z_pos}
use Rattle.integers.specs.Parts.{up, dn}
use Rattle.integers.proofs.Laws.{ints, sum, diff, times, size}
use Rattle.certificate.specs.Figures.{Figure}

pub figure_fits : (x : ℤ) → Figure x → SFits w64 x
figure_fits x p = omega (ints, size x)

pub diff_fits : (x y : ℤ) → Figure x → Figure y → SFits w64 (x -ℤ y)
diff_fits x y p q = omega (ints, size (x -ℤ y), diff x y, size x, size y)

pub diff_sum_fits : (x y : ℤ) (k : ℕ) → Figure x → Figure y → k ≤ 2 ^ 40 → SFits w64 (x -ℤ y +ℤ pos k)
diff_sum_fits x y k p q h = omega (ints, size (x -ℤ y +ℤ pos k), sum (x -ℤ y) (pos k), diff x y, size x, size y)

pub sum_fits : (n : ℕ) (x : ℤ) → n ≤ 1000000 → Figure x → SFits w64 (pos n +ℤ x)
sum_fits n x h p = omega (ints, size (pos n +ℤ x), sum (pos n) x, size x)

pub bound_fits : (n : ℕ) (x y : ℤ) → n ≤ 1000000 → Figure x → Figure y → SFits w64 (pos n +ℤ x -ℤ y)
bound_fits n x y h p q = omega (ints, size (pos n +ℤ x -ℤ y), sum (pos n) x, diff (pos n +ℤ x) y, size x, size y)

-- what a loop's later visits may take is below 2^56, whatever number of visits is meant: which one it is shows in the answer
pub later_most : (k x : ℕ) → k ≤ 2 ^ 40 → x ≤ 65535 → k * x < 2 ^ 56
later_most k x h l = let most : k * x ≤ 2 ^ 40 * 65535 = mul-le-mul h l in omega arith

pub later_sum_fits : (n k x : ℕ) → n ≤ 1000000 → k ≤ 2 ^ 40 → x ≤ 65535 → SFits w64 (to_z w64 n +ℤ to_z w64 (k * x))
later_sum_fits n k x c h l =
    let most : k * x < 2 ^ 56 = later_most k x h l in
    rw (to_z_pos w64 {n = n} (omega arith), to_z_pos w64 {n = k * x} (omega arith)) (record { sfits = omega arith })

-- and is the product of the definition
pub later_is : (k b : ℕ) → 1 ≤ b → pos k *ℤ (pos b -ℤ pos 1) ≡ pos (k * (b - 1))
later_is k b h = ap (λ (z : ℤ). pos k *ℤ z) less ∙ pos-*ℤ-pos k (b - 1)
  where
    less : pos b -ℤ pos 1 ≡ pos (b - 1)
    less = omega (ints, diff (pos b) (pos 1))

-- what the visits of a stay may take, less y of them
product_most : (k x y : ℕ) → k ≤ 2 ^ 40 → x ≤ 65535 → y ≤ 1 → mag (pos k *ℤ (pos x -ℤ pos y)) < 2 ^ 57
product_most k x y h l o = omega (ints, times k (pos x -ℤ pos y), size (pos k *ℤ (pos x -ℤ pos y)), mul-le-mul h over, mul-le-mul h under)
  where
    over : up (pos x -ℤ pos y) ≤ 65535
    over = omega (ints, diff (pos x) (pos y), size (pos x -ℤ pos y))

    under : dn (pos x -ℤ pos y) ≤ 1
    under = omega (ints, diff (pos x) (pos y), size (pos x -ℤ pos y))

pub less_fits : (x y : ℕ) → x ≤ 65535 → y ≤ 1 → SFits w64 (pos x -ℤ pos y)
less_fits x y l o = omega (ints, diff (pos x) (pos y), size (pos x -ℤ pos y))

pub product_fits : (k x y : ℕ) → k ≤ 2 ^ 40 → x ≤ 65535 → y ≤ 1 → SFits w64 (pos k *ℤ (pos x -ℤ pos y))
product_fits k x y h l o = record { sfits = omega (arith, product_most k x y h l o) }

pub product_sum_fits : (n k x y : ℕ) → n ≤ 1000000 → k ≤ 2 ^ 40 → x ≤ 65535 → y ≤ 1 → SFits w64 (pos n +ℤ pos k *ℤ (pos x -ℤ pos y))
product_sum_fits n k x y c h l o = omega (ints, size (pos n +ℤ pos k *ℤ (pos x -ℤ pos y)), sum (pos n) (pos k *ℤ (pos x -ℤ pos y)), size (pos k *ℤ (pos x -ℤ pos y)), product_most k x y h l o)

-- the same of the machine's numbers
pub diff_add_fits : (x y : ℤ) (k : ℕ) → Figure x → Figure y → k ≤ 2 ^ 40 → SFits w64 (x -ℤ y +ℤ to_z w64 k)
diff_add_fits x y k p q h = rw (to_z_pos w64 {n = k} (omega arith)) (diff_sum_fits x y k p q h)

pub sub_fits : (x y : ℕ) → x ≤ 65535 → y ≤ 1 → SFits w64 (to_z w64 x -ℤ pos y)
sub_fits x y l o = rw (to_z_pos w64 {n = x} (omega arith)) (less_fits x y l o)

pub mul_fits : (k x y : ℕ) → k ≤ 2 ^ 40 → x ≤ 65535 → y ≤ 1 → SFits w64 (to_z w64 k *ℤ to_z w64 (of_z w64 (to_z w64 x -ℤ pos y)))
mul_fits k x y h l o = rw (to_z_pos w64 {n = k} (omega arith), to_z_pos w64 {n = x} (omega arith), to_z-of_z (less_fits x y l o)) (product_fits k x y h l o)

pub mul_sum_fits : (n k x y : ℕ) → n ≤ 1000000 → k ≤ 2 ^ 40 → x ≤ 65535 → y ≤ 1 → SFits w64 (to_z w64 n +ℤ to_z w64 (of_z w64 (to_z w64 k *ℤ to_z w64 (of_z w64 (to_z w64 x -ℤ pos y)))))
mul_sum_fits n k x y c h l o =
    rw (to_z_pos w64 {n = n} (omega arith), to_z_pos w64 {n = k} (omega arith), to_z_pos w64 {n = x} (omega arith), to_z-of_z (less_fits x y l o), to_z-of_z (product_fits k x y h l o)) (product_sum_fits n k x y c h l o)
