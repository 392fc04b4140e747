-- Texts added one after another.
use Rattle.std.proofs.Common.{◌≡◌, ℕ, ◌+◌, ◌≤◌, true, leb, List, [], ◌++◌, length, take, drop, Ok, sym, refl, ap, ◌∙◌, subst, append_assoc, add-zero, zero-add, arith}
use borrow.Rule.Slice.Mut.{set_vals}
use borrow.Rule.Slice.PartMut.{put_mid}
use Rattle.std.proofs.lemmas.List.{take-append-drop, take_at, drop_at, drop-drop, length-append, length-take-le, length-drop}
use Rattle.std.proofs.lemmas.Bool.{le-leb}
use Rattle.writing.specs.declared.output.Output.{Output}
use Rattle.writing.specs.Places.{put_at, write_answer, after_write}
use Rattle.writing.specs.Outputs.{Place, Puts}

put_none : (out : List ℕ) (at : ℕ) → put_at out at [] ≡ out
unfolding put_at
put_none out at = rw add-zero (take-append-drop at out)

-- a text and then another behind it
put_more : (out : List ℕ) (at : ℕ) (a b : List ℕ) → at + length a ≤ length out → put_at (put_at out at a) (at + length a) b ≡ put_at out at (a ++ b)
unfolding put_at
put_more out at a b h =
    let n = at + length a in
    let front = take at out ++ a in
    let q = drop n out in
    let long : length front ≡ n = length-append (take at out) a ∙ ap (λ k. k + length a) (length-take-le at out (omega arith)) in
    let split : take at out ++ (a ++ q) ≡ front ++ q = sym (append_assoc (take at out) a q) in
    let first : take n (take at out ++ (a ++ q)) ≡ front = ap (take n) split ∙ take_at front q n long in
    let rest : drop (n + length b) (take at out ++ (a ++ q)) ≡ drop (n + length b) out =
    sym (drop-drop (length b) n (take at out ++ (a ++ q))) ∙ ap (drop (length b)) (ap (drop n) split ∙ drop_at front q n long) ∙ drop-drop (length b) n out in
    let sum : at + length (a ++ b) ≡ n + length b = omega (arith, length-append a b) in
    rw (first, rest, sum, append_assoc (take at out) a (b ++ drop (n + length b) out), append_assoc a b (drop (n + length b) out))

put_start : (out text : List ℕ) → put_at out 0 text ≡ text ++ drop (length text) out
unfolding put_at
put_start out text = rw zero-add

length_put : (out : List ℕ) (at : ℕ) (text : List ℕ) → at + length text ≤ length out → length (put_at out at text) ≡ length out
unfolding put_at
length_put out at text h = omega (arith, length-append (take at out) (text ++ drop (at + length text) out), length-append text (drop (at + length text) out), length-take-le at out (omega arith), length-drop (at + length text) out)

-- a part of the output that was written as a slice of its own
put_part : (out part text : List ℕ) (at k : ℕ) → part ≡ text → k ≡ length text → put_mid at k out part ≡ put_at out at text
unfolding put_at
put_part out part text at k e n = rw (e, n) (ap (λ l. take at out ++ (text ++ l)) (drop-drop (length text) at out))

pub puts_part : (most : ℕ) (a b : Output) (part text : List ℕ) (at n k : ℕ) → b.bytes ≡ a.bytes → Place a n at b → part ≡ text → n ≡ length text → n ≤ most → k ≡ n
    → Puts most a text (record { bytes = set_vals (put_mid at k b.bytes.now part) b.bytes; len = b.len })
puts_part most a b part text at n k same p e long small kn =
    let now : put_mid at k b.bytes.now part ≡ put_at a.bytes.now a.len text =
    put_part b.bytes.now part text at k e (kn ∙ long) ∙ ap (λ o. put_at o.now at text) same ∙ ap (λ i. put_at a.bytes.now i text) p.begins in
    record {
      short = omega arith;
      counted = λ h. omega (arith, p.begins, p.ends);
      written = λ h. (omega (arith, p.begins, p.ends), now);
      room = ap length now ∙ length_put a.bytes.now a.len text (omega (arith, p.begins, p.inside));
      same = ap (λ o. o.ghost_name) same;
    }

-- no text
pub puts_none : (a : Output) → Puts 0 a [] a
puts_none a = record { short = omega arith; counted = λ h. omega arith; written = λ h. (omega arith, sym (put_none a.bytes.now a.len)); room = refl; same = refl }

-- the same text by another name, and a bound that is no less
pub puts_same : (m n : ℕ) (a : Output) (x y : List ℕ) (b : Output) → x ≡ y → m ≤ n → Puts m a x b → Puts n a y b
puts_same m n a x y b e le p = subst (λ t. Puts n a t b) e (record { short = omega (arith, p.short); counted = p.counted; written = p.written; room = p.room; same = p.same })

-- a text and then another
pub puts_both : (m n : ℕ) (a : Output) (x : List ℕ) (b : Output) (y : List ℕ) (c : Output) → Puts m a x b → Puts n b y c → Puts (m + n) a (x ++ y) c
puts_both m n a x b y c p q =
    let sum = length-append x y in
    record {
      short = omega (arith, sum, p.short, q.short);
      counted = λ h. let one = p.counted (omega arith) in omega (arith, q.counted (omega arith));
      written = λ h.
          let one = p.written (omega arith) in
          let two = q.written (omega (arith, one.0, p.room)) in
          (omega (arith, one.0, two.0), two.1 ∙ ap (λ i. put_at b.bytes.now i y) one.0 ∙ ap (λ o. put_at o (a.len + length x) y) one.1 ∙ put_more a.bytes.now a.len x y (omega arith));
      room = q.room ∙ p.room;
      same = q.same ∙ p.same;
    }

-- a text at the start of the output
pub fits : (most : ℕ) (a b : Output) (out text : List ℕ) → a.len ≡ 0 → a.bytes.now ≡ out → length text ≤ length out → Puts most a text b → (Ok (length text) ≡ write_answer text out) × (b.bytes.now ≡ after_write text out)
fits most a b out text zero is h p =
    let yes : leb (length text) (length out) ≡ true = le-leb (length text) (length out) h in
    let done = p.written (omega (arith, zero, ap length is)) in
    (rw yes, rw yes (done.1 ∙ ap (λ i. put_at a.bytes.now i text) zero ∙ ap (λ o. put_at o 0 text) is ∙ put_start out text))
