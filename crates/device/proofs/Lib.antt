pub mod AcceptedDevice
