use Rattle.std.proofs.Common.{◌≡◌, ◌∷◌, ◌-◌, take, sym, ap, ◌∙◌, arith}
use Rattle.script.specs.Words.{words_in, words_of}
use Rattle.script.proofs.Steps.{one_word, first_word}
use Rattle.script.proofs.words.Words.next.Goals as goal

pub returns-in_default : goal.returns-in_default
returns-in_default c = sym c.self.view_is ∙ ap words_in c.in_ok-text.was ∙ one_word c.in_ok-text.text.now c.in_default.ensures.first

pub returns : goal.returns
returns c =
    let text = c.in_ok-text.text.now in
    let at = c.in-Some.at in
    let first = c.in-Some.ensures.first in
    let from_zero : at - 0 ≡ at = omega arith in
    let word : c.range.result.now ≡ take at text = c.range.ensures.value ∙ ap (λ n. take n text) from_zero in
    sym c.self.view_is ∙ ap words_in c.in_ok-text.was ∙ first_word text at first.0 first.1 first.2
    ∙ (λ k. sym word k ∷ words_of (sym c.range_from.ensures.value k))
