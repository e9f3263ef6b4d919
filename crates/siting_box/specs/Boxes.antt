-- What a box holds.
use Rattle.siting_box.specs.declared.boxes.SitingBox.{SitingBox}
use Rattle.siting_box.specs.Contents.{Contents, contents}

-- its plan, if it holds one, and its records
abbrev pub box_contents : {X : Type 0} → SitingBox X → Contents X
box_contents b = contents b.plan b.records.now
