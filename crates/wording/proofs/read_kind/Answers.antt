use Rattle.std.proofs.Common.{◌≡◌, rules}
use Rattle.limits.specs.declared.Kind.TheVariants.{Read, Write, Acquire, Release, Fork, Join}
use Rattle.wording.specs.Lines.{read_word, write_word, acquire_word, release_word, fork_word, join_word, kind_word}
use Rattle.wording.specs.Parts.{kind}
use Rattle.wording.proofs.LineLaws.{no_word}
use Rattle.wording.proofs.read_kind.Goals as goal

pub returns-then-eq : goal.returns-then-eq
unfolding kind_word
returns-then-eq c = let h : c.args.word.now ≡ read_word = search rules in kind {k = Read} h

pub returns-then-eq-2 : goal.returns-then-eq-2
unfolding kind_word
returns-then-eq-2 c = let h : c.args.word.now ≡ write_word = search rules in kind {k = Write} h

pub returns-then-eq-3 : goal.returns-then-eq-3
unfolding kind_word
returns-then-eq-3 c = let h : c.args.word.now ≡ acquire_word = search rules in kind {k = Acquire} h

pub returns-then-eq-4 : goal.returns-then-eq-4
unfolding kind_word
returns-then-eq-4 c = let h : c.args.word.now ≡ release_word = search rules in kind {k = Release} h

pub returns-then-eq-5 : goal.returns-then-eq-5
unfolding kind_word
returns-then-eq-5 c = let h : c.args.word.now ≡ fork_word = search rules in kind {k = Fork} h

pub returns-then-eq-6 : goal.returns-then-eq-6
unfolding kind_word
returns-then-eq-6 c = let h : c.args.word.now ≡ join_word = search rules in kind {k = Join} h

pub returns : goal.returns
returns c = search (no_word, rules)
