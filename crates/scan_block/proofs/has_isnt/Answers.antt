-- Where neither the blocks nor the rest have a word that says "is not", there is none.
use Rattle.scan_block.proofs.has_isnt.Goals as goal

pub returns : goal.returns
returns c e = c.rest_has_isnt.ensures e (c.blocks_have_isnt.ensures (cc))
