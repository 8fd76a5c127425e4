use Rattle.std.proofs.Common.{◌≡◌, ℕ, None, MatchOption, rules}
use Rattle.model.specs.References.{span}
use Rattle.format.specs.Pairs.{reference_of}
use Rattle.format.specs.declared.nodes.Target.{Target}
use Rattle.format.proofs.Referred.{reference_read}
use Rattle.format.proofs.nodes.referred.Goals as goal

pub returns : goal.returns
returns c =
    let h = c.args.head in
    let o = c.and_then.result in
    let r = c.map_or.result in
    let pair : MatchOption c.target.result (o ≡ None) (λ (x : Target). o ≡ reference_of c.args.rest.now h.stp h.cb) = search rules in
    let read : MatchOption o (r ≡ span 0 0) (λ (x : ℕ × ℕ). r ≡ span x.0 x.1) = search rules in
    reference_read c.args.rest.now h.stp h.cb h.base c.target.result o r c.requires c.target.ensures pair read
