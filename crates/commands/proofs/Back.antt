-- The line of a command is read as that command.
use Rattle.std.proofs.Common.{◌≡◌, ℕ, suc, ◌-◌, ◌^◌, ◌<◌, ◌≤◌, Bool, true, false, not, ◌&&◌, eqb, List, [], ◌∷◌, length, ℤ, pos, negsuc, Some, Ok, codes, decimal, refl, ◌∙◌, arith}
use Rattle.std.specs.Char.{is_ascii_digit}
use Rattle.std.specs.Fmt.{signed_decimal}
use Rattle.std.specs.List.{AllByRecursion}
use Rattle.std.specs.Str.{all_ascii_digits}
use Rattle.std.proofs.lemmas.Fmt.{decimal_nonempty, digits_decimal, digits_value-decimal}
use Rattle.std.proofs.lemmas.Bool.{and_parts, eqb-false, le-leb, not-true}
use Rattle.std.proofs.lemmas.Bool.Decides.{nat_tests}
use Rattle.numbers.specs.Shapes.{has_minus, without_sign}
use Rattle.commands.specs.Numerals.{numeral_of, signed_of}
use Rattle.calendar.specs.declared.instant.Timestamp.{Timestamp}
use Rattle.commands.specs.declared.command.Shifts.{Shifts}
use Rattle.commands.specs.declared.command.Shifts.TheVariants.{Unshifted, One, Two, Three}
use Rattle.commands.specs.Kinds.{kind_of}
use Rattle.commands.specs.Commands.{new_sheet, opens, pastes, cuts, undoes, shows_cells, shows_journal, shows, closes, shows_row, shows_entry, shows_window, shows_lines, writes, nothing, is_comment, by_words, command_of}
use Rattle.commands.specs.Texts.{CommandsReadBack, OneWord, GoodMoment, GoodShift, GoodShifts, moment_text, shifts_text, spaced, words_of}
use Rattle.commands.proofs.Exact.{own}
use Rattle.commands.proofs.Spaced.{words_spaced}

pub numeral_back : (most n : ℕ) → n ≤ most → n < 2 ^ 64 → numeral_of most (decimal n) ≡ Some n
numeral_back most n le h = rw (le-leb 1 (length (decimal n)) (decimal_nonempty n h), digits_decimal own n h, digits_value-decimal own n h, le-leb n most le)

no_minus : (ds : List ℕ) → all_ascii_digits ds ≡ true → has_minus ds ≡ false
no_minus [] d = refl
no_minus (c ∷ cs) d = grind (arith, nat_tests)

no_sign : (ds : List ℕ) → all_ascii_digits ds ≡ true → without_sign ds ≡ ds
no_sign [] d = refl
no_sign (c ∷ cs) d = grind (arith, nat_tests)

shift_back : (v : ℤ) → GoodShift v → signed_of (signed_decimal v) ≡ Some v
shift_back (pos n) h =
    let d = digits_decimal own n (omega arith) in rw (no_minus (decimal n) d, no_sign (decimal n) d, numeral_back (2 ^ 63 - 1) n (omega arith) (omega arith))
shift_back (negsuc n) h = rw (numeral_back (2 ^ 63) (suc n) (omega arith) (omega arith))

-- bytes without a space
solid : List ℕ → Bool
solid [] = true
solid (b ∷ bs) = not (eqb b 32) && solid bs

no_space : (w : List ℕ) → solid w ≡ true → AllByRecursion (λ b. b ≡ 32 → ⊥) w
unfolding solid
no_space [] s = tt
no_space (b ∷ bs) s = (λ e. eqb-false b 32 (not-true _ (and_parts _ _ s).0) e, no_space bs (and_parts _ _ s).1)

solid_digits : (ds : List ℕ) → all_ascii_digits ds ≡ true → solid ds ≡ true
unfolding solid
solid_digits [] d = refl
solid_digits (c ∷ cs) d = let rest : solid cs ≡ true = solid_digits cs (and_parts (is_ascii_digit c) (all_ascii_digits cs) d).1 in grind (arith, nat_tests)

name_word : (w : List ℕ) → solid w ≡ true → 1 ≤ length w → OneWord w
name_word w s some = (some, no_space w s)

number_word : (n : ℕ) → n < 2 ^ 64 → OneWord (decimal n)
number_word n h = (decimal_nonempty n h, no_space (decimal n) (solid_digits (decimal n) (digits_decimal own n h)))

shift_word : (v : ℤ) → GoodShift v → OneWord (signed_decimal v)
shift_word (pos n) h = number_word n (omega arith)
shift_word (negsuc n) h = let d = number_word (suc n) (omega arith) in (omega arith, ((λ e. omega arith), d.1))

line_is : (ws : List (List ℕ)) → AllByRecursion OneWord ws → is_comment (spaced ws) ≡ false → command_of (spaced ws) ≡ by_words ws
line_is ws all c = rw (c, words_spaced ws all)

rows_word : (n : ℕ) → n ≤ 8192 → OneWord (decimal n)
rows_word n h = number_word n (omega arith)

moment_words : (m : Timestamp) → GoodMoment m → (ws : List (List ℕ)) → AllByRecursion OneWord ws → AllByRecursion OneWord (moment_text m ws)
moment_words m g ws all = (number_word m.day (omega (arith, g.0)), (number_word m.micros g.1, all))

shifts_words : (s : Shifts) → GoodShifts s → AllByRecursion OneWord (shifts_text s)
shifts_words Unshifted g = tt
shifts_words (One a) g = (shift_word a g, tt)
shifts_words (Two a b) g = (shift_word a g.0, (shift_word b g.1, tt))
shifts_words (Three a b c) g = (shift_word a g.0, (shift_word b g.1.0, (shift_word c g.1.1, tt)))

day_back : (n : ℕ) → n < 2 ^ 32 → numeral_of (2 ^ 32 - 1) (decimal n) ≡ Some n
day_back n h = numeral_back (2 ^ 32 - 1) n (omega arith) (omega arith)

large_back : (n : ℕ) → n < 2 ^ 64 → numeral_of (2 ^ 64 - 1) (decimal n) ≡ Some n
large_back n h = numeral_back (2 ^ 64 - 1) n (omega arith) h

window_back : (m : Timestamp) (s : Shifts) → GoodMoment m → GoodShifts s → by_words (words_of (shows_window m s)) ≡ Ok (shows_window m s)
unfolding kind_of
window_back m Unshifted g k = rw (day_back m.day g.0, large_back m.micros g.1)
window_back m (One a) g k = rw (day_back m.day g.0, large_back m.micros g.1, shift_back a k)
window_back m (Two a b) g k = rw (day_back m.day g.0, large_back m.micros g.1, shift_back a k.0, shift_back b k.1)
window_back m (Three a b c) g k = rw (day_back m.day g.0, large_back m.micros g.1, shift_back a k.0, shift_back b k.1.0, shift_back c k.1.1)

pub commands_back : CommandsReadBack
unfolding kind_of solid
commands_back (new_sheet rows taken) g =
    line_is (words_of (new_sheet rows taken)) (name_word (codes "sheet") refl (omega arith), (rows_word rows g.0, (rows_word taken g.1, tt))) refl
    ∙ rw (large_back rows (omega arith), le-leb rows 8192 g.0, large_back taken (omega arith), le-leb taken 8192 g.1)
commands_back (opens path) g = line_is (words_of (opens path)) (name_word (codes "open") refl (omega arith), (g, tt)) refl
commands_back (pastes path) g = line_is (words_of (pastes path)) (name_word (codes "paste") refl (omega arith), (g, tt)) refl
commands_back (cuts m n) g =
    line_is (words_of (cuts m n)) (name_word (codes "cut") refl (omega arith), moment_words m g.0 (moment_text n []) (moment_words n g.1 [] tt)) refl
    ∙ rw (day_back m.day g.0.0, large_back m.micros g.0.1, day_back n.day g.1.0, large_back n.micros g.1.1)
commands_back undoes g = refl
commands_back shows_cells g = refl
commands_back shows_journal g = refl
commands_back shows g = refl
commands_back closes g = refl
commands_back (shows_row n) g = line_is (words_of (shows_row n)) (name_word (codes "row") refl (omega arith), (number_word n g, tt)) refl ∙ rw (large_back n g)
commands_back (shows_entry n) g = line_is (words_of (shows_entry n)) (name_word (codes "entry") refl (omega arith), (number_word n g, tt)) refl ∙ rw (large_back n g)
commands_back (shows_window m s) g =
    line_is (words_of (shows_window m s)) (name_word (codes "window") refl (omega arith), moment_words m g.0 (shifts_text s) (shifts_words s g.1)) refl
    ∙ window_back m s g.0 g.1
commands_back (shows_lines path m) g =
    line_is (words_of (shows_lines path m)) (name_word (codes "lines") refl (omega arith), (g.0, moment_words m g.1 [] tt)) refl
    ∙ rw (day_back m.day g.1.0, large_back m.micros g.1.1)
commands_back (writes path) g = line_is (words_of (writes path)) (name_word (codes "write") refl (omega arith), (g, tt)) refl
commands_back nothing g = refl
