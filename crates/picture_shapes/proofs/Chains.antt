-- Words added one after the other.
use Rattle.std.proofs.Common.{◌≡◌, ◌∙◌, ap, ℕ, Result, Ok, Err, OnOk, List, ◌++◌, append_assoc}

-- words after words
more : (o a b x y : List ℕ) → a ≡ o ++ x → b ≡ a ++ y → b ≡ o ++ (x ++ y)
more o a b x y first then = then ∙ ap (λ z. z ++ y) first ∙ append_assoc o x y

-- the last words, where there was memory for them
pub two : {A E : Type 0} (r : Result A E) (o a n x y : List ℕ) → a ≡ o ++ x → OnOk r (n ≡ a ++ y)
    → OnOk r (n ≡ o ++ (x ++ y))
two (Err e) o a n x y first then = then
two (Ok v) o a n x y first then = more o a n x y first then

-- three words
pub three : {A E : Type 0} (r : Result A E) (o m1 m2 n p1 p2 p3 : List ℕ)
    → m1 ≡ o ++ p1 → m2 ≡ m1 ++ p2
    → OnOk r (n ≡ m2 ++ p3) → OnOk r (n ≡ o ++ (p1 ++ p2 ++ p3))
three r o m1 m2 n p1 p2 p3 h1 h2 h3 =
    two r o m2 n (p1 ++ p2) p3 (more o m1 m2 p1 p2 h1 h2) h3

-- four words
pub four : {A E : Type 0} (r : Result A E) (o m1 m2 m3 n p1 p2 p3 p4 : List ℕ)
    → m1 ≡ o ++ p1 → m2 ≡ m1 ++ p2 → m3 ≡ m2 ++ p3
    → OnOk r (n ≡ m3 ++ p4) → OnOk r (n ≡ o ++ (p1 ++ p2 ++ p3 ++ p4))
four r o m1 m2 m3 n p1 p2 p3 p4 h1 h2 h3 h4 =
    three r o m2 m3 n (p1 ++ p2) p3 p4 (more o m1 m2 p1 p2 h1 h2) h3 h4

-- five words
pub five : {A E : Type 0} (r : Result A E) (o m1 m2 m3 m4 n p1 p2 p3 p4 p5 : List ℕ)
    → m1 ≡ o ++ p1 → m2 ≡ m1 ++ p2 → m3 ≡ m2 ++ p3 → m4 ≡ m3 ++ p4
    → OnOk r (n ≡ m4 ++ p5) → OnOk r (n ≡ o ++ (p1 ++ p2 ++ p3 ++ p4 ++ p5))
five r o m1 m2 m3 m4 n p1 p2 p3 p4 p5 h1 h2 h3 h4 h5 =
    four r o m2 m3 m4 n (p1 ++ p2) p3 p4 p5 (more o m1 m2 p1 p2 h1 h2) h3 h4 h5

-- six words
pub six : {A E : Type 0} (r : Result A E) (o m1 m2 m3 m4 m5 n p1 p2 p3 p4 p5 p6 : List ℕ)
    → m1 ≡ o ++ p1 → m2 ≡ m1 ++ p2 → m3 ≡ m2 ++ p3 → m4 ≡ m3 ++ p4 → m5 ≡ m4 ++ p5
    → OnOk r (n ≡ m5 ++ p6) → OnOk r (n ≡ o ++ (p1 ++ p2 ++ p3 ++ p4 ++ p5 ++ p6))
six r o m1 m2 m3 m4 m5 n p1 p2 p3 p4 p5 p6 h1 h2 h3 h4 h5 h6 =
    five r o m2 m3 m4 m5 n (p1 ++ p2) p3 p4 p5 p6 (more o m1 m2 p1 p2 h1 h2) h3 h4 h5 h6

-- seven words
pub seven : {A E : Type 0} (r : Result A E) (o m1 m2 m3 m4 m5 m6 n p1 p2 p3 p4 p5 p6 p7 : List ℕ)
    → m1 ≡ o ++ p1 → m2 ≡ m1 ++ p2 → m3 ≡ m2 ++ p3 → m4 ≡ m3 ++ p4 → m5 ≡ m4 ++ p5 → m6 ≡ m5 ++ p6
    → OnOk r (n ≡ m6 ++ p7) → OnOk r (n ≡ o ++ (p1 ++ p2 ++ p3 ++ p4 ++ p5 ++ p6 ++ p7))
seven r o m1 m2 m3 m4 m5 m6 n p1 p2 p3 p4 p5 p6 p7 h1 h2 h3 h4 h5 h6 h7 =
    six r o m2 m3 m4 m5 m6 n (p1 ++ p2) p3 p4 p5 p6 p7 (more o m1 m2 p1 p2 h1 h2) h3 h4 h5 h6 h7

-- eight words
pub eight : {A E : Type 0} (r : Result A E) (o m1 m2 m3 m4 m5 m6 m7 n p1 p2 p3 p4 p5 p6 p7 p8 : List ℕ)
    → m1 ≡ o ++ p1 → m2 ≡ m1 ++ p2 → m3 ≡ m2 ++ p3 → m4 ≡ m3 ++ p4 → m5 ≡ m4 ++ p5 → m6 ≡ m5 ++ p6
    → m7 ≡ m6 ++ p7
    → OnOk r (n ≡ m7 ++ p8) → OnOk r (n ≡ o ++ (p1 ++ p2 ++ p3 ++ p4 ++ p5 ++ p6 ++ p7 ++ p8))
eight r o m1 m2 m3 m4 m5 m6 m7 n p1 p2 p3 p4 p5 p6 p7 p8 h1 h2 h3 h4 h5 h6 h7 h8 =
    seven r o m2 m3 m4 m5 m6 m7 n (p1 ++ p2) p3 p4 p5 p6 p7 p8 (more o m1 m2 p1 p2 h1 h2) h3 h4 h5 h6 h7 h8
